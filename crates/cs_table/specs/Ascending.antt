-- Names in strictly ascending order of their bytes: this project's profile.
use Rattle.std.specs.Prelude.{ℕ, List, [], ◌∷◌, Bool, true, ◌&&◌, IsTrue}
use Rattle.std.specs.Ordering.{nat_cmp, is_lt}
use Rattle.std.specs.Cmp.Lexicographic.{slice_cmp}

-- each name is below the next: a test, so that it computes at a constant table
abbrev pub ascends : List (List ℕ) → Bool
ascends [] = true
ascends (x ∷ []) = true
ascends (x ∷ y ∷ zs) = is_lt (slice_cmp nat_cmp x y) && ascends (y ∷ zs)

abbrev pub IsAscending : List (List ℕ) → Type 0
IsAscending names = IsTrue (ascends names)
