-- The names that a library was asked for, and the bytes under them: this project's profile.
use Rattle.std.specs.Prelude.{◌≡◌, ℕ, Bool, false, ◌||◌, ◌==◌, List, [], ◌∷◌, ◌++◌, ◌⊎◌, Option, None, Some}
use Rattle.std.specs.Option.{option_map, unwrap_or}
use Rattle.std.specs.FinMap.{FinMap, get}
use Rattle.std.specs.Cmp.Lexicographic.{slice_cmp}
use Rattle.std.specs.Ordering.{nat_cmp}
use Rattle.cs_io.specs.declared.library.Asked.{Asked}

-- from names to bytes
abbrev pub Files : Type 0
Files = FinMap {K = List ℕ} (slice_cmp nat_cmp) (List ℕ)

-- the bytes of a name; a name that the map lacks has none
abbrev pub file_bytes : Files → List ℕ → List ℕ
file_bytes files name = unwrap_or (get files name) []

-- the same, where the map is told
abbrev pub told_bytes : Option Files → List ℕ → Option (List ℕ)
told_bytes files name = option_map (λ m. file_bytes m name) files

abbrev pub number_is : Option ℕ → ℕ → Bool
number_is None n = false
number_is (Some m) n = m == n

-- a number is open where it stands in the list of the names asked
abbrev pub is_open : List Asked → ℕ → Bool
is_open [] n = false
is_open (a ∷ rest) n = number_is a.number n || is_open rest n

-- a name was added without a number, or nothing was
abbrev pub AddsNone : List Asked → List Asked → List ℕ → Type 0
AddsNone old new name = (new ≡ old ++ record { name = name; number = None } ∷ []) ⊎ (new ≡ old)
