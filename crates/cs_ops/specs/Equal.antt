-- Equality of values: GROQ-1.revision1, "Equality operators". Lists and objects are equal to
-- nothing.
use Rattle.std.specs.Prelude.{Bool, true, false}
use Rattle.std.specs.Ordering.{is_eq, bool_cmp, int_eq}
use Rattle.std.specs.Str.{bytes_eq}
use Rattle.cs_value.specs.Tree.{Tree, null, boolean, integer, text, list, object}

abbrev pub equal : Tree → Tree → Bool
equal null null = true
equal (boolean x) (boolean y) = is_eq (bool_cmp x y)
equal (integer m) (integer n) = int_eq m n
equal (text s) (text t) = bytes_eq s t
equal a b = false

-- null, a boolean, a number or a text
abbrev pub is_scalar : Tree → Bool
is_scalar null = true
is_scalar (boolean b) = true
is_scalar (integer n) = true
is_scalar (text s) = true
is_scalar (list ts) = false
is_scalar (object ps) = false
