use Rattle.std.proofs.Common.{◌∙◌, ◌++◌, ◌∷◌, [], ap, sym}
use Rattle.cs_reply.specs.View.{before_answer}
use Rattle.cs_reply.proofs.Living.{line-ends, live-text}
use Rattle.cs_reply.proofs.live.write_live.Goals as goal

pub returns : goal.returns
returns c = λ t is.
    let out = c.args.out.now.items in
    let before = before_answer c.args.line c.args.name.now in
    c.in_ok-extend_from_slice-2.ensures.items
    ∙ ap (λ l. l ++ 125 ∷ 10 ∷ []) (c.in_ok-extend_from_slice.ensures.items ∙ ap (λ l. l ++ c.args.answer.now) c.in_ok-write_before_answer.ensures)
    ∙ line-ends out before c.args.answer.now
    ∙ ap (λ a. out ++ ((before ++ (a ++ 125 ∷ [])) ++ 10 ∷ [])) is
    ∙ ap (λ l. out ++ (l ++ 10 ∷ [])) (sym (live-text c.args.line c.args.name.now t))
