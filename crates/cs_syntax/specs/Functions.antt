-- The functions of the query language, and the numbers of their arguments: GROQ-1.revision1,
-- "Functions" and "Namespaces", as this project's profile has them.
use Rattle.std.specs.Prelude.{ℕ, ◌+◌, List, [], ◌∷◌, Bool, true, false, ◌&&◌, ◌||◌, Option, option_map, codes, if◌then◌else◌, nat_eq, nat_le, drop}
use Rattle.std.specs.List.{list_any, starts_with}
use Rattle.std.specs.Str.{bytes_eq}
use Rattle.cs_table.specs.Row.{row_of}
use Rattle.cs_syntax.specs.Expression.{argument, when_argument, Arguments, no_arguments, more_arguments}

-- so many arguments; so many or more; pairs `condition => value`, and then at most one value for
-- no condition met
pub data Arity : Type 0 where
  exactly : ℕ → Arity
  at_least : ℕ → Arity
  pairs_and_default : Arity

-- the functions by the names that they are called by: one without a namespace has `global::` in
-- front or not
abbrev pub functions : List (List ℕ × Arity)
functions = (codes "array::compact", exactly 1) ∷ (codes "array::join", exactly 2) ∷ (
  codes
      "array::unique",
  exactly 1,
)
    ∷ (codes "coalesce", at_least 0) ∷ (codes "count", exactly 1) ∷ (codes "defined", exactly 1)
    ∷ (codes "global::coalesce", at_least 0) ∷ (codes "global::count", exactly 1) ∷ (
      codes
          "global::defined",
      exactly 1,
    )
    ∷ (codes "global::length", exactly 1) ∷ (codes "global::references", at_least 1)
    ∷ (codes "global::select", pairs_and_default) ∷ (codes "global::string", exactly 1) ∷ (
      codes
          "length",
      exactly 1,
    )
    ∷ (codes "math::max", exactly 1) ∷ (codes "math::min", exactly 1) ∷ (
      codes "math::sum",
      exactly 1,
    )
    ∷ (codes "references", at_least 1) ∷ (codes "select", pairs_and_default) ∷ (
      codes "string",
      exactly 1,
    )
    ∷ (codes "string::split", exactly 2) ∷ (codes "string::startsWith", exactly 2) ∷ []

-- the arity of the function of the name, if it is one
abbrev pub arity_of : List ℕ → Option Arity
arity_of name = option_map (λ row. row.1) (row_of (λ row. row.0) name functions)

abbrev pub count_of : Arguments → ℕ
count_of no_arguments = 0
count_of (more_arguments a rest) = count_of rest + 1

-- no argument has `=>`
abbrev pub all_plain : Arguments → Bool
all_plain no_arguments = true
all_plain (more_arguments (argument e) rest) = all_plain rest
all_plain (more_arguments (when_argument c e) rest) = false

-- each argument has `=>`, the last one perhaps not
abbrev pub pairs_come_first : Arguments → Bool
pairs_come_first no_arguments = true
pairs_come_first (more_arguments (argument e) no_arguments) = true
pairs_come_first (more_arguments (argument e) (more_arguments a rest)) = false
pairs_come_first (more_arguments (when_argument c e) rest) = pairs_come_first rest

-- a call may have these arguments
abbrev pub accepts : Arity → Arguments → Bool
accepts (exactly n) xs = nat_eq (count_of xs) n && all_plain xs
accepts (at_least n) xs = nat_le n (count_of xs) && all_plain xs
accepts pairs_and_default xs = pairs_come_first xs

-- functions of the standard that the profile leaves out
abbrev pub left_out : List (List ℕ)
left_out = codes "round" ∷ codes "lower" ∷ codes "upper" ∷ codes "dateTime" ∷ codes
    "identity" ∷ codes "now"
    ∷ codes "before" ∷ codes "after" ∷ codes "score" ∷ codes "boost" ∷ codes "math::avg" ∷ []

-- namespaces of the standard that the profile leaves out whole
abbrev pub namespaces_left_out : List (List ℕ)
namespaces_left_out =
    codes "pt::" ∷ codes "geo::" ∷ codes "sanity::" ∷ codes "delta::" ∷ codes "diff::" ∷ []

-- the name without `global::` in front
abbrev pub without_global : List ℕ → List ℕ
without_global name = if starts_with nat_eq name (codes "global::") then drop 8 name else name

abbrev pub is_left_out_here : List ℕ → Bool
is_left_out_here name = list_any (λ other. bytes_eq name other) left_out
    || list_any (λ space. starts_with nat_eq name space) namespaces_left_out

-- the name, with or without `global::` in front, is left out or of a namespace left out
abbrev pub is_left_out : List ℕ → Bool
is_left_out name = is_left_out_here (without_global name)
