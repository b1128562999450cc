-- The arithmetic of whole numbers of 64 bits and the joins of `+`: GROQ-1.revision1, "Plus
-- operator" and those after it.
-- A number out of 64 bits, and a remainder by 0, are null: this project's profile.
use Rattle.std.specs.Prelude.{◌^◌, ◌++◌, ℤ, pos, negsuc, ◌+ℤ◌, ◌-ℤ◌, ◌*ℤ◌, int_rem, Bool, true, false, nat_lt, if◌then◌else◌}
use Rattle.std.specs.Ordering.{int_eq}
use Rattle.cs_value.specs.Tree.{Tree, null, integer, text, list, object, trees, members, Pairs, no_pairs, more_pairs}
use Rattle.cs_value.specs.Pairs.{put}

-- whether a number is one of 64 bits: from -2^63 to 2^63-1
abbrev pub is_of_64_bits : ℤ → Bool
is_of_64_bits (pos n) = nat_lt n (2 ^ 63)
is_of_64_bits (negsuc n) = nat_lt n (2 ^ 63)

-- the number as a value, null out of 64 bits
abbrev pub number : ℤ → Tree
number n = if is_of_64_bits n then integer n else null

-- a function of two numbers, null of anything else
abbrev pub of_numbers : (ℤ → ℤ → Tree) → Tree → Tree → Tree
of_numbers f (integer m) (integer n) = f m n
of_numbers f a b = null

abbrev pub difference : ℤ → ℤ → Tree
difference m n = number (m -ℤ n)

abbrev pub product : ℤ → ℤ → Tree
product m n = number (m *ℤ n)

-- what is left of the quotient cut towards 0, so it has the sign of the left side
abbrev pub remainder : ℤ → ℤ → Tree
remainder m n = if int_eq n (pos 0) then null else number (int_rem m n)

-- the pairs of both objects; a name of both has the value of the right one
abbrev pub merged : Pairs → Pairs → Pairs
merged left no_pairs = left
merged left (more_pairs k t right) = merged (put k t left) right

abbrev pub sum : Tree → Tree → Tree
sum (integer m) (integer n) = number (m +ℤ n)
sum (text s) (text t) = text (s ++ t)
sum (list ts) (list us) = list (trees (members ts ++ members us))
sum (object ps) (object qs) = object (merged ps qs)
sum a b = null

-- whether `+` makes a text, a list or an object of the two
abbrev pub joins : Tree → Tree → Bool
joins (text s) (text t) = true
joins (list ts) (list us) = true
joins (object ps) (object qs) = true
joins a b = false
