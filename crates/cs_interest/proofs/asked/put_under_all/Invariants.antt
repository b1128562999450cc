use Rattle.std.proofs.Common.{◌≡◌, ℕ, ◌||◌, nat_cmp, drop}
use Rattle.std.specs.BTreeSet.{contains}
use Rattle.cs_interest.specs.Interest.{has_some, IsNumber}
use Rattle.cs_interest.proofs.asked.put_under_all.Given as goal

abbrev pub invariant-loop-code : goal.invariant-loop-code
invariant-loop-code l = (n : ℕ) → IsNumber n → (has_some l.pairs (drop l.code-index l.code-items) n || contains nat_cmp l.asked n) ≡ (has_some l.pairs l.code-items n || contains nat_cmp l.fn.asked n)
