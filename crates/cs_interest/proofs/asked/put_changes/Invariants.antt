use Rattle.std.proofs.Common.{◌≡◌, ℕ, ◌||◌, nat_cmp, drop}
use Rattle.std.specs.BTreeSet.{contains}
use Rattle.std.specs.List.{list_any}
use Rattle.cs_view.specs.View.{edits}
use Rattle.cs_interest.specs.Interest.{concerned, IsNumber}
use Rattle.cs_interest.proofs.asked.put_changes.Given as goal

abbrev pub invariant-loop-change : goal.invariant-loop-change
invariant-loop-change l = (n : ℕ) → IsNumber n → (list_any (concerned l.seed l.pairs n) (edits (drop l.change-index l.changes)) || contains nat_cmp l.asked n) ≡ (list_any (concerned l.seed l.pairs n) (edits l.changes) || contains nat_cmp l.fn.asked n)
