-- Constants: the values that a filter can name before any document is looked at: this project's
-- profile.
use Rattle.std.specs.Prelude.{ℕ, List, [], ◌∷◌, pos, Option, Some, None, option_and_then}
use Rattle.std.specs.Option.{option_map_or}
use Rattle.cs_value.specs.Tree.{Tree, null, boolean, integer, text, list, object, Pairs}
use Rattle.cs_value.specs.Pairs.{find}
use Rattle.cs_ops.specs.Operators as operators
use Rattle.cs_ops.specs.declared.op.Pre.TheVariants.{Minus}
use Rattle.cs_syntax.specs.declared.tree.PreSign.TheVariants as sign
use Rattle.cs_syntax.specs.Expression.{Expression, bool_literal, number_literal, text_literal, param, parent, chain, prefix}
use Rattle.cs_syntax.specs.Numbers.{written_number}
use Rattle.cs_view.specs.declared.key.Scalar.{Scalar}
use Rattle.cs_view.specs.declared.key.Scalar.TheVariants.{Bool as Boolean, Num, Text}
use Rattle.cs_plan.specs.Steps.{in_scope, names_of}
use Rattle.cs_value.specs.Words.{field}

-- The value of a number as it is written; null where the profile refuses it, for a fraction, an
-- exponent or more than 64 bits: GROQ-1.revision1, "Number".
abbrev pub literal : List ℕ → Tree
literal n = option_map_or (λ k. integer (pos k)) (written_number n) null

-- The text, number or boolean that a value is; none where it is something else.
abbrev pub scalar_of : Tree → Option Scalar
scalar_of null = None
scalar_of (boolean b) = Some (Boolean b)
scalar_of (integer n) = Some (Num n)
scalar_of (text s) = Some (Text s)
scalar_of (list ts) = None
scalar_of (object ps) = None

-- The attribute of the attribute and so on, by these names: null where an object on the way lacks
-- one.
abbrev pub at_names : List (List ℕ) → Tree → Tree
at_names [] v = v
at_names (name ∷ names) v = at_names names (field name v)

-- The constant that an expression is, in the scope in which the filter's chain stands: a text, a
-- number, `-` and a number, a boolean, a parameter, or attributes of a value of that scope, where
-- `@` is a document not yet known.
abbrev pub constant : Expression → List Tree → Pairs → Option Scalar
constant (text_literal s) scope params = Some (Text s)
constant (number_literal n) scope params = scalar_of (literal n)
constant (prefix (sign.Minus ∷ []) (number_literal n)) scope params =
    scalar_of (operators.prefix Minus (literal n))
constant (bool_literal b) scope params = Some (Boolean b)
constant (param p) scope params = option_and_then scalar_of (find p params)
constant (parent n) scope params = scalar_of (in_scope n (null ∷ scope))
constant (chain (parent n) ss) scope params =
    option_and_then (λ names. scalar_of (at_names names (in_scope n (null ∷ scope)))) (names_of ss)
constant e scope params = None
