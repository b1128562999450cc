use Rattle.std.proofs.Common.{◌∙◌, ap, subst, OnOk, ℕ, List}
use Rattle.cs_reply.specs.Reply.{live, reply_tree}
use Rattle.cs_reply.specs.View.{Appended}
use Rattle.cs_state.proofs.answer.write_answer.Goals as goal

pub returns : goal.returns
returns c = λ s is.
    subst (λ (n : List ℕ). OnOk c.write_live.result (Appended c.args.out.now.items
    c.write_live.new.out.items (reply_tree c.args.line (live n s.1))))
    (c.as_str.ensures ∙ ap (λ w. w.0) is)
    (c.write_live.ensures s.1 (c.deref.ensures.value ∙ ap (λ w. w.1) is))
