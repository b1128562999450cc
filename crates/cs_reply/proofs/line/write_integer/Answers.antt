use Rattle.std.proofs.Common.{rules, tests, ◌≡◌, ◌∙◌, ◌++◌, List, ℕ, ap}
use Rattle.std.specs.Fmt.{signed_decimal}
use Rattle.cs_reply.proofs.Living.{integer-text}
use Rattle.cs_reply.proofs.line.write_integer.Goals as goal

pub returns : goal.returns
returns c =
    let digits : c.format.result.now ≡ signed_decimal c.args.n = search (rules, tests) in
    c.in_ok-extend_from_slice.ensures.items
    ∙ ap (λ (text : List ℕ). c.args.out.now.items ++ text) (c.as_bytes.ensures.value ∙ (digits ∙ integer-text c.args.n))
