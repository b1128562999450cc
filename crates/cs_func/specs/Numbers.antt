-- The functions of a list of numbers and nulls: GROQ-1.revision1, its "Math" namespace. A sum out
-- of 64 bits is null, not one whose partial sums are: this project's profile.
use Rattle.std.specs.Prelude.{List, [], ◌∷◌, ℤ, pos, ◌+ℤ◌, Option, Some, None, option_map, fold}
use Rattle.std.specs.Int.{int_min, int_max}
use Rattle.cs_value.specs.Words.{of_list}
use Rattle.cs_value.specs.Tree.{Tree, null, integer}
use Rattle.cs_ops.specs.Arithmetic.{number}

-- the numbers of a list without its nulls; none where it has another element
abbrev pub numbers : List Tree → Option (List ℤ)
numbers [] = Some []
numbers (null ∷ ts) = numbers ts
numbers (integer n ∷ ts) = option_map (λ ns. n ∷ ns) (numbers ts)
numbers (t ∷ ts) = None

-- a function of these numbers, null where there are none
abbrev pub of_numbers : (List ℤ → Tree) → Option (List ℤ) → Tree
of_numbers f None = null
of_numbers f (Some ns) = f ns

abbrev pub sum : Tree → Tree
sum x = of_list (λ ts. of_numbers (λ ns. number (fold ◌+ℤ◌ (pos 0) ns)) (numbers ts)) x

-- the number that is picked of all, null where there is none
abbrev pub picked : (ℤ → ℤ → ℤ) → List ℤ → Tree
picked pick [] = null
picked pick (n ∷ ns) = integer (fold pick n ns)

abbrev pub least : Tree → Tree
least x = of_list (λ ts. of_numbers (picked int_min) (numbers ts)) x

abbrev pub greatest : Tree → Tree
greatest x = of_list (λ ts. of_numbers (picked int_max) (numbers ts)) x

-- the number that is picked of the one so far and one more
abbrev pub picked_of : (ℤ → ℤ → ℤ) → Option ℤ → ℤ → ℤ
picked_of pick None n = n
picked_of pick (Some m) n = pick m n
