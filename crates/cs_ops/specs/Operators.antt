-- Each operator as a function from values to a value: GROQ-1.revision1, "Operators".
use Rattle.std.specs.Prelude.{Bool, true, false, not, ◌&&◌, Option, Some, None, ℤ, neg_ℤ}
use Rattle.std.specs.declared.cmp.Ordering.{Ordering}
use Rattle.std.specs.Ordering.{is_lt, is_le, is_gt, is_ge}
use Rattle.std.specs.List.{list_any}
use Rattle.cs_value.specs.Tree.{Tree, null, boolean, integer, text, list, object, members}
use Rattle.cs_ops.specs.Arithmetic.{number, of_numbers, sum, difference, product, remainder}
use Rattle.cs_ops.specs.Equal.{equal}
use Rattle.cs_ops.specs.Order.{partial}
use Rattle.cs_ops.specs.Truth.{truth, said, both, either, opposite}
use Rattle.cs_ops.specs.declared.op.Op.{Op}
use Rattle.cs_ops.specs.declared.op.Op.TheVariants.{Add, Sub, Mul, Rem, Eq, Ne, Lt, Le, Gt, Ge, And, Or}
use Rattle.cs_ops.specs.declared.op.Pre.{Pre}
use Rattle.cs_ops.specs.declared.op.Pre.TheVariants.{Minus, Plus, Not}

-- a test of a comparison, null where there is none
abbrev pub compared : (Ordering → Bool) → Option Ordering → Tree
compared test None = null
compared test (Some o) = boolean (test o)

abbrev pub binary : Op → Tree → Tree → Tree
binary Add a b = sum a b
binary Sub a b = of_numbers difference a b
binary Mul a b = of_numbers product a b
binary Rem a b = of_numbers remainder a b
binary Eq a b = boolean (equal a b)
binary Ne a b = boolean (not (equal a b))
binary Lt a b = compared is_lt (partial a b)
binary Le a b = compared is_le (partial a b)
binary Gt a b = compared is_gt (partial a b)
binary Ge a b = compared is_ge (partial a b)
binary And a b = said (both (truth a) (truth b))
binary Or a b = said (either (truth a) (truth b))

-- a function of a number, null of anything else
abbrev pub of_number : (ℤ → Tree) → Tree → Tree
of_number f (integer n) = f n
of_number f a = null

abbrev pub prefix : Pre → Tree → Tree
prefix Minus a = of_number (λ n. number (neg_ℤ n)) a
prefix Plus a = of_number integer a
prefix Not a = said (opposite (truth a))

-- `a in b`: whether some element of a list is equal to the value, null where there is no list
abbrev pub within : Tree → Tree → Tree
within a null = null
within a (boolean b) = null
within a (integer n) = null
within a (text s) = null
within a (list ts) = boolean (list_any (λ t. equal t a) (members ts))
within a (object ps) = null

-- the test of a comparison with the lower end, and of one with the upper end
abbrev pub both_hold : (Ordering → Bool) → Option Ordering → (Ordering → Bool) → Option Ordering
    → Tree
both_hold from None to high = null
both_hold from (Some o) to None = null
both_hold from (Some o) to (Some p) = boolean (from o && to p)

-- `a in low..high`, and `a in low...high` where the range is open at its upper end
abbrev pub between : Tree → Tree → Tree → Bool → Tree
between a low high true = both_hold is_ge (partial a low) is_le (partial a high)
between a low high false = both_hold is_ge (partial a low) is_lt (partial a high)
