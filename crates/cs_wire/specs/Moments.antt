-- Which texts are moments: RFC 3339, "Internet Date/Time Format", of which this project's profile
-- has whole seconds of UTC alone, with no leap second.
use Prim.Native.Char.{code}
use Rattle.std.specs.Prelude.{ℕ, ◌+◌, ◌-◌, ◌*◌, ◌%◌, List, [], ◌∷◌, Bool, true, false, not, ◌&&◌, ◌||◌, cond, nat_le, ◌==◌, take, drop, codes}
use Rattle.cs_value.specs.Id.{is_between}

-- ---- the form
abbrev pub is_digit : ℕ → Bool
is_digit b = is_between (code "0") (code "9") b

-- the byte is the one of the pattern, in which `d` stands for any digit
abbrev pub fits_byte : ℕ → ℕ → Bool
fits_byte p b = cond (p == code "d") (is_digit b) (p == b)

abbrev pub fits : List ℕ → List ℕ → Bool
fits [] [] = true
fits (p ∷ ps) (b ∷ bs) = fits_byte p b && fits ps bs
fits ps bs = false

abbrev pub has_form : List ℕ → Bool
has_form s = fits (codes "dddd-dd-ddTdd:dd:ddZ") s

-- ---- the numbers
-- a number with some digits more: 48 is the code of `0`
abbrev pub and_digits : ℕ → List ℕ → ℕ
and_digits n [] = n
and_digits n (b ∷ bs) = and_digits (10 * n + (b - 48)) bs

-- the number of so many digits from a place on
abbrev pub number_at : ℕ → ℕ → List ℕ → ℕ
number_at place count s = and_digits 0 (take count (drop place s))

abbrev pub year : List ℕ → ℕ
year s = number_at 0 4 s

abbrev pub month : List ℕ → ℕ
month s = number_at 5 2 s

abbrev pub day : List ℕ → ℕ
day s = number_at 8 2 s

abbrev pub hour : List ℕ → ℕ
hour s = number_at 11 2 s

abbrev pub minute : List ℕ → ℕ
minute s = number_at 14 2 s

abbrev pub second : List ℕ → ℕ
second s = number_at 17 2 s

-- ---- the calendar (RFC 3339, section 5.7 and appendix C)
abbrev pub is_leap : ℕ → Bool
is_leap y = y % 4 == 0 && (not (y % 100 == 0) || y % 400 == 0)

-- how many days a month of a year has
abbrev pub days_in : ℕ → ℕ → ℕ
days_in y m =
    cond (m == 2) (cond (is_leap y) 29 28)
    (cond (m == 4 || m == 6 || m == 9 || m == 11) 30 31)

abbrev pub is_date : ℕ → ℕ → ℕ → Bool
is_date y m d = is_between 1 12 m && is_between 1 (days_in y m) d

abbrev pub is_time : ℕ → ℕ → ℕ → Bool
is_time h m s = nat_le h 23 && nat_le m 59 && nat_le s 59

abbrev pub is_moment : List ℕ → Bool
is_moment s =
    has_form s && is_date (year s) (month s) (day s) && is_time (hour s) (minute s) (second s)
