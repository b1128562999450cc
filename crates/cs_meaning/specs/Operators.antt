-- Operators and functions by the signs and names that stand in an expression: GROQ-1.revision1,
-- "Operators", "Functions".
use Rattle.std.specs.Prelude.{ℕ, List, [], ◌∷◌, ◌++◌, flat_map, filter_map, Bool, true, false, not, Option, Some, None, option_and_then, option_to_list, unwrap_or, codes, if◌then◌else◌}
use Rattle.std.specs.Option.{option_map_or}
use Rattle.std.specs.List.{list_any}
use Rattle.std.specs.Str.{bytes_eq}
use Rattle.cs_value.specs.Tree.{Tree, null, boolean, Pairs}
use Rattle.cs_value.specs.Pairs.{find, put}
use Rattle.cs_value.specs.Words.{as_text, as_object, as_list, ref_of, is_null}
use Rattle.cs_syntax.specs.declared.tree.BinSign.{BinSign}
use Rattle.cs_syntax.specs.declared.tree.BinSign.TheVariants as sign
use Rattle.cs_syntax.specs.declared.tree.PreSign.{PreSign}
use Rattle.cs_syntax.specs.declared.tree.PreSign.TheVariants as front
use Rattle.cs_syntax.specs.Functions.{without_global}
use Rattle.cs_ops.specs.Arithmetic.{merged}
use Rattle.cs_ops.specs.Operators.{binary, prefix, within}
use Rattle.cs_ops.specs.Truth.{truth}
use Rattle.cs_ops.specs.declared.op.Op.{Op}
use Rattle.cs_ops.specs.declared.op.Op.TheVariants.{Add, Sub, Mul, Rem, Eq, Ne, Lt, Le, Gt, Ge, And, Or}
use Rattle.cs_ops.specs.declared.op.Pre.{Pre}
use Rattle.cs_ops.specs.declared.op.Pre.TheVariants.{Minus, Plus, Not}
use Rattle.cs_func.specs.Functions.{has_two, value}
use Rattle.cs_func.specs.Names.{named}
use Rattle.cs_func.specs.PathPattern.{path_matches}
use Rattle.cs_func.specs.Refers.{refers}
use Rattle.cs_func.specs.Texts.{of_texts}
use Rattle.cs_func.specs.declared.function.Function.{Function}
use Rattle.cs_view.specs.Dataset.{standing}

-- A value is `true`: "And operator".
abbrev pub is_true : Tree → Bool
is_true v = unwrap_or (truth v) false

-- A value is `false`; it may be neither.
abbrev pub is_false : Tree → Bool
is_false v = not (unwrap_or (truth v) true)

-- The operator of a sign between two values; `match`, `/` and `**` have none in this project's
-- profile.
abbrev pub operator_of : BinSign → Option Op
operator_of sign.Or = Some Or
operator_of sign.And = Some And
operator_of sign.Eq = Some Eq
operator_of sign.Ne = Some Ne
operator_of sign.Lt = Some Lt
operator_of sign.Le = Some Le
operator_of sign.Gt = Some Gt
operator_of sign.Ge = Some Ge
operator_of sign.Match = None
operator_of sign.Add = Some Add
operator_of sign.Sub = Some Sub
operator_of sign.Mul = Some Mul
operator_of sign.Div = None
operator_of sign.Rem = Some Rem
operator_of sign.Pow = None

-- The value of a sign between two values: null where the sign has no operator.
abbrev pub operated : BinSign → Tree → Tree → Tree
operated s a b = option_map_or (λ o. binary o a b) (operator_of s) null

-- The left side alone decides: false of `&&`, true of `||`.
abbrev pub decides : Option Op → Tree → Bool
decides (Some And) v = is_false v
decides (Some Or) v = is_true v
decides o v = false

-- The operator of a sign in front.
abbrev pub front_operator : PreSign → Pre
front_operator front.Minus = Minus
front_operator front.Plus = Plus
front_operator front.Not = Not

-- Signs in front of a value, the innermost first.
abbrev pub signed : List PreSign → Tree → Tree
signed [] v = v
signed (p ∷ ps) v = prefix (front_operator p) (signed ps v)

-- `v in path(p)`: whether the pattern matches, null where either is no text: "In operator",
-- "path()".
abbrev pub in_path : Tree → Tree → Tree
in_path v pattern = of_texts (λ s p. boolean (path_matches p s)) v pattern

-- `v in w`, where w may be the call of `path` that has this pattern: "In operator".
abbrev pub in_list_or_path : Tree → Option Tree → Tree → Tree
in_list_or_path v None w = within v w
in_list_or_path v (Some pattern) w = in_path v pattern

-- The one of these; null where there is none or there are more.
abbrev pub sole : List Tree → Tree
sole (v ∷ []) = v
sole vs = null

-- How a call finds its value: `coalesce` and `select` may leave arguments aside, `references` looks
-- at `@`, and every other name may be that of a function of values.
pub data Callee : Type 0 where
  coalescing : Callee
  selecting : Callee
  referring : Callee
  applying : Option Function → Callee

-- What a name calls, with `global::` in front or not: "Namespaces".
abbrev pub callee : List ℕ → Callee
callee name = let bare = without_global name in
    if bytes_eq bare (codes "coalesce") then coalescing
    else if bytes_eq bare (codes "select") then selecting
    else if bytes_eq bare (codes "references") then referring
    else applying (named name)

-- A function of its arguments' values; null where there is no such function, or it has another
-- number of arguments.
abbrev pub applied : Option Function → List Tree → Tree
applied (Some f) (x ∷ []) = value f x None
applied (Some f) (x ∷ y ∷ []) = if has_two f then value f x (Some y) else null
applied f xs = null

-- The texts that an argument of `references` gives: a text itself, and those among a list's
-- elements.
abbrev pub targets : Tree → List (List ℕ)
targets v = option_to_list (as_text v) ++ filter_map as_text (unwrap_or (as_list v) [])

-- `references(..)`: whether the value, or one inside it, refers to one of the texts given:
-- "references()".
abbrev pub references : List Tree → Tree → Tree
references vs this = boolean (list_any (λ target. refers target this) (flat_map targets vs))

-- What a call is: what its arguments come to as those of `coalesce`, of `select`, or as values.
abbrev pub called : Callee → Tree → Tree → Tree → List Tree → Tree
called coalescing first taken this vs = first
called selecting first taken this vs = taken
called referring first taken this vs = references vs this
called (applying f) first taken this vs = applied f vs

-- The first value where it is not null, else the other: "coalesce()".
abbrev pub or_else : Tree → Tree → Tree
or_else v w = if is_null v then w else v

-- The value of a parameter, null where it is not given: "Parameter".
abbrev pub parameter : List ℕ → Pairs → Tree
parameter name params = unwrap_or (find name params) null

-- The pairs with every pair of an object put in, and nothing of anything else: "Object".
abbrev pub spread_into : Pairs → Tree → Pairs
spread_into pairs v = option_map_or (merged pairs) (as_object v) pairs

-- The pairs with the value under its key; without a key nothing is put.
abbrev pub put_under : Option (List ℕ) → Tree → Pairs → Pairs
put_under None v pairs = pairs
put_under (Some k) v pairs = put k v pairs

-- The text that an object refers by: none where it has a `_dataset`, or no text as `_ref`:
-- "Dereference".
abbrev pub reference_in : Pairs → Option (List ℕ)
reference_in pairs =
    option_map_or (λ other. None) (find (codes "_dataset") pairs)
    (ref_of pairs)

-- The text that a value refers by: none where it is no object.
abbrev pub reference_of : Tree → Option (List ℕ)
reference_of v = option_and_then reference_in (as_object v)

-- The document of the dataset that has the id, null where none has: "Dereference".
abbrev pub sought : List Tree → Option (List ℕ) → Tree
sought docs id = unwrap_or (option_and_then (λ t. standing t docs) id) null
