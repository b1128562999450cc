-- Codes that ascend, as they are searched.
use Rattle.std.proofs.Common.{◌≡◌, ℕ, ◌<◌, ◌≤◌, List, length, false, refl, sym, ap, ◌∙◌, nat_eq, eq-eqb, Result, Ok, Err, is_ok, MatchResult, arith, get_or}
use Rattle.std.proofs.lemmas.Grind.{common_steps}
use Rattle.std.proofs.lemmas.List.Elements.{All-from_get_or}
use Rattle.std.proofs.lemmas.List.Folds.{list_any_at, list_any_none}
use Rattle.std.proofs.lemmas.List.Sorted.{list_any-IsPermutation, searched}
use Rattle.std.specs.List.Sorted.{IsPermutation, IsNonDecreasing, IsBinarySearchResult}
use Rattle.std.specs.Ordering.{nat_cmp}
use Rattle.cs_codes.specs.Codes.{is_among}

pub sorted_codes : (cs ds : List ℕ) → IsPermutation cs ds → (x : ℕ) → is_among x ds ≡ is_among x cs
sorted_codes cs ds h x = sym (list_any-IsPermutation (λ y. nat_eq x y) cs ds h)

other_number : (x y : ℕ) → (k i : ℕ) → (k < i → y < x) → (i ≤ k → x < y) → nat_eq x y ≡ false
other_number x y k i below above = grind (arith, common_steps)

found_or_not : (cs : List ℕ) (x : ℕ) (r : Result ℕ ℕ)
    → MatchResult r (λ i. (i < length cs) × (get_or cs i 0 ≡ x)) (λ i. (i ≤ length cs) × ((k : ℕ) → k < i → get_or cs k 0 < x) × ((k : ℕ) → i ≤ k → k < length cs → x < get_or cs k 0))
    → is_ok r ≡ is_among x cs
found_or_not cs x (Ok i) h = sym (list_any_at (λ y. nat_eq x y) cs i 0 h.0 (ap (nat_eq x) h.1 ∙ eq-eqb x x refl))
found_or_not cs x (Err i) h =
    sym (list_any_none (λ y. nat_eq x y) cs (All-from_get_or (λ y. nat_eq x y ≡ false) cs 0 (λ k b. other_number x (get_or cs k 0) k i (h.1 k) (λ g. h.2 k g b))))

pub code_found : (cs : List ℕ) (x : ℕ) (r : Result ℕ ℕ) → IsBinarySearchResult (λ y. nat_cmp y x) cs r → IsNonDecreasing cs → is_ok r ≡ is_among x cs
code_found cs x r h ascends = found_or_not cs x r (searched cs x r h (λ i j. ascends i j 0))
