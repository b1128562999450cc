use Rattle.std.proofs.Common.{◌∙◌, ◌||◌, ap, ℕ, nat_cmp}
use Rattle.std.specs.BTreeSet.{contains}
use Rattle.cs_interest.specs.Interest.{has_pair}
use Rattle.cs_interest.proofs.Pairs.{in_turn}
use Rattle.cs_interest.proofs.asked.put_change.Goals as goal

pub returns : goal.returns
returns c = λ n h. in_turn _ _ _ _ _ _ _
    (c.in_ok-put_under.ensures n h ∙ ap (λ (x : ℕ). has_pair c.args.pairs.now x n || contains nat_cmp c.args.asked.now n) c.id_code.ensures)
    (c.in_ok-put_side.ensures n h) (c.in_ok-put_side-2.ensures n h)
