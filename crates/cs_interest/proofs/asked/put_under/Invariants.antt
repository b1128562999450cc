use Rattle.std.proofs.Common.{◌≡◌, ℕ, ◌||◌, nat_eq, nat_cmp}
use Rattle.std.specs.BTreeSet.{contains, keys_between}
use Rattle.std.specs.List.{list_any}
use Rattle.std.specs.declared.ops.Bound.TheVariants.{Included}
use Rattle.cs_interest.specs.Interest.{IsNumber, pair, pair_cmp}
use Rattle.cs_interest.proofs.asked.put_under.Given as goal

abbrev pub invariant-loop-pair : goal.invariant-loop-pair
invariant-loop-pair l = (n : ℕ) → IsNumber n
    → (list_any (λ p. nat_eq n p.number) l.pair-iterator || contains nat_cmp l.asked n)
    ≡ (list_any (λ p. nat_eq n p.number) (keys_between pair_cmp (Included (pair l.code 0)) (Included (pair l.code 18446744073709551615)) l.pairs) || contains nat_cmp l.fn.asked n)
