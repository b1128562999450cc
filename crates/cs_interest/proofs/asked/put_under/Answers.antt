use Rattle.std.proofs.Common.{◌≡◌, ◌∙◌, ◌||◌, [], ap, sym, nat_cmp, nat_eq}
use Rattle.std.specs.BTreeSet.{contains}
use Rattle.std.specs.List.{list_any}
use Rattle.cs_interest.proofs.Pairs.{under}
use Rattle.cs_interest.proofs.asked.put_under.Goals as goal

pub returns : goal.returns
returns c = λ n h.
    let ended : c.loop-pair.pair-iterator ≡ [] = c.in-None.ensures.steps.0 in
    ap (λ it. list_any (λ p. nat_eq n p.number) it || contains nat_cmp c.loop-pair.asked n) (sym ended)
    ∙ c.loop-pair.invariant n h ∙ ap (λ b. b || contains nat_cmp c.args.asked.now n) (under c.args.pairs.now c.args.code n h)
