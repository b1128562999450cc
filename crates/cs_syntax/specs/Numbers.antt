-- A number as it is written: GROQ-1.revision1, "Number", as this project's profile has it.
use Rattle.std.specs.Prelude.{ℕ, ◌+◌, ◌*◌, ◌-◌, List, Bool, ◌||◌, if◌then◌else◌, Option, Some, None, nat_eq, nat_lt, fold}
use Rattle.std.specs.List.{list_any}

-- the number that digits write, for a source of digits alone: 48 is the code of `0`
abbrev pub whole_number : List ℕ → ℕ
whole_number digits = fold (λ n digit. n * 10 + (digit - 48)) 0 digits

-- `e` or `E` is there
abbrev pub has_exponent : List ℕ → Bool
has_exponent number = list_any (λ c. nat_eq c 101) number || list_any (λ c. nat_eq c 69) number

-- `.` is there
abbrev pub has_fraction : List ℕ → Bool
has_fraction number = list_any (λ c. nat_eq c 46) number

-- the number is above 2^63-1
abbrev pub is_wide : List ℕ → Bool
is_wide number = nat_lt 9223372036854775807 (whole_number number)

-- the number that is written, where the profile takes it: it has neither an exponent nor a
-- fraction, and is not above 2^63-1
abbrev pub written_number : List ℕ → Option ℕ
written_number number =
    if has_exponent number || has_fraction number || is_wide number then None
    else Some (whole_number number)
