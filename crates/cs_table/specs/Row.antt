-- The row of a name in a table: this project's profile.
use Rattle.std.specs.Prelude.{ℕ, List, Option, find}
use Rattle.std.specs.Ordering.{nat_cmp, is_eq}
use Rattle.std.specs.Cmp.Lexicographic.{slice_cmp}

-- the first row of the name, and the only one where the names ascend strictly
abbrev pub row_of : {A : Type 0} → (A → List ℕ) → List ℕ → List A → Option A
row_of called name rows = find (λ r. is_eq (slice_cmp nat_cmp (called r) name)) rows
