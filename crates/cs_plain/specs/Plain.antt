-- Plain predicates, the filters that a listener may have: Sanity's HTTP documentation, "Listening",
-- in this project's profile.
use Rattle.std.specs.Prelude.{Bool, true, false, ◌&&◌, ◌||◌, List, [], ◌∷◌, Option, Some, None, is_some, cond}
use Rattle.cs_syntax.specs.declared.tree.BinSign.{BinSign}
use Rattle.cs_syntax.specs.declared.tree.BinSign.TheVariants as sign
use Rattle.cs_syntax.specs.declared.tree.PreSign.{PreSign}
use Rattle.cs_syntax.specs.declared.tree.PreSign.TheVariants as front
use Rattle.cs_syntax.specs.Faults.{is_path}
use Rattle.cs_syntax.specs.Expression.{Expression, null_literal, bool_literal, number_literal, text_literal, param, word, this, everything, round, call, array, chain, prefix, run, within, between, Operands, no_operands, more_operands, Step, bracket, Steps, no_steps, more_steps, element, spread_element, Elements, no_elements, more_elements, Arguments, no_arguments, more_arguments, argument, when_argument}
use Rattle.cs_func.specs.declared.function.Function.TheVariants.{Count, Length, Defined, StartsWith}
use Rattle.cs_plan.specs.Simple.{is_filter}
use Rattle.cs_plan.specs.Steps.{names_of, number_of}
use Rattle.cs_meaning.specs.Operators.{Callee, referring, applying, callee}

-- An expression is a word alone.
abbrev pub is_word : Expression → Bool
is_word (word w) = true
is_word _ = false

-- `-` and a number alone.
abbrev pub is_negative : List PreSign → Expression → Bool
is_negative (front.Minus ∷ []) e = is_some (number_of e)
is_negative signs e = false

-- The call is one of `count` or of `length`.
abbrev pub is_measure : Callee → Bool
is_measure (applying (Some Count)) = true
is_measure (applying (Some Length)) = true
is_measure _ = false

abbrev mutual
  -- An operand: null, a boolean, a number, `-` and a number, a text, a parameter, `@`, a word with
  -- any number of `.w` and `["w"]` behind it, or `count` or `length` of an operand.
  pub is_operand : Expression → Bool
  is_operand null_literal = true
  is_operand (bool_literal b) = true
  is_operand (number_literal n) = true
  is_operand (text_literal s) = true
  is_operand (param p) = true
  is_operand (word w) = true
  is_operand this = true
  is_operand (chain base ss) = is_word base && is_some (names_of ss)
  is_operand (prefix signs e) = is_negative signs e
  is_operand (call name args) = is_measure (callee name) && is_one args
  is_operand _ = false

  -- One argument alone, which is an operand.
  pub is_one : Arguments → Bool
  is_one (more_arguments (argument e) no_arguments) = is_operand e
  is_one _ = false

-- All arguments are operands.
abbrev pub are_operands : Arguments → Bool
are_operands no_arguments = true
are_operands (more_arguments (argument e) xs) = is_operand e && are_operands xs
are_operands (more_arguments (when_argument c e) xs) = false

-- One argument or more, and all are operands.
abbrev pub are_some : Arguments → Bool
are_some no_arguments = false
are_some (more_arguments x xs) = are_operands (more_arguments x xs)

-- Two arguments, both of them operands.
abbrev pub are_two : Arguments → Bool
are_two (more_arguments x (more_arguments y no_arguments)) = are_operands (more_arguments x
    (more_arguments y no_arguments))
are_two _ = false

-- A call that may stand as a condition: `defined`, `string::startsWith`, `references`, and those
-- that are operands.
abbrev pub is_test : Callee → Arguments → Bool
is_test (applying (Some Defined)) args = is_one args
is_test (applying (Some StartsWith)) args = are_two args
is_test (applying (Some Count)) args = is_one args
is_test (applying (Some Length)) args = is_one args
is_test referring args = are_some args
is_test _ args = false

-- All elements of an array literal are operands.
abbrev pub are_elements : Elements → Bool
are_elements no_elements = true
are_elements (more_elements (element e) xs) = is_operand e && are_elements xs
are_elements (more_elements (spread_element e) xs) = false

-- One element or more, and all are operands.
abbrev pub are_some_elements : Elements → Bool
are_some_elements no_elements = false
are_some_elements (more_elements x xs) = are_elements (more_elements x xs)

-- What may stand on the right of `in`, ranges aside: an operand, an array literal of operands,
-- `path` of an operand.
abbrev pub is_container : Expression → Bool
is_container (array es) = are_some_elements es
is_container (call name args) = cond (is_path name) (is_one args) (is_operand (call name args))
is_container e = is_operand e

-- A sign of a comparison.
abbrev pub is_comparison : BinSign → Bool
is_comparison sign.Eq = true
is_comparison sign.Ne = true
is_comparison sign.Lt = true
is_comparison sign.Le = true
is_comparison sign.Gt = true
is_comparison sign.Ge = true
is_comparison _ = false

-- One comparison with an operand.
abbrev pub is_compared : Operands → Bool
is_compared (more_operands s e no_operands) = is_comparison s && is_operand e
is_compared _ = false

-- `&&` or `||`.
abbrev pub is_junction : BinSign → Bool
is_junction sign.And = true
is_junction sign.Or = true
is_junction _ = false

-- All signs are `!`.
abbrev pub all_not : List PreSign → Bool
all_not [] = true
all_not (front.Not ∷ ps) = all_not ps
all_not _ = false

abbrev mutual
  -- A condition: operands that are compared or looked for, tests of operands, an operand itself,
  -- and what `&&`, `||`, `!` and round brackets make of conditions.
  pub is_plain : Expression → Bool
  is_plain (round e) = is_plain e
  is_plain (run e rest) = (is_plain e && are_junctions rest) || (is_operand e && is_compared rest)
  is_plain (prefix signs e) = (all_not signs && is_plain e) || is_negative signs e
  is_plain (within e right) = is_operand e && is_container right
  is_plain (between e from to closed) = is_operand e && (is_operand from && is_operand to)
  is_plain (call name args) = is_test (callee name) args
  is_plain e = is_operand e

  -- Each sign is `&&` or `||`, and what stands behind it a condition.
  pub are_junctions : Operands → Bool
  are_junctions no_operands = true
  are_junctions (more_operands s e rest) = is_junction s && (is_plain e && are_junctions rest)

-- The expression of a step that is a filter with a condition as above.
abbrev pub filter_in : Step → Option Expression
filter_in (bracket e) = cond (is_filter (bracket e) && is_plain e) (Some e) None
filter_in _ = None

-- The filter of one step alone.
abbrev pub filter_alone : Steps → Option Expression
filter_alone (more_steps s no_steps) = filter_in s
filter_alone _ = None

-- The filter that a listener's query stands for: `true` for `*` alone, the condition of `*` and one
-- filter; none where the query has another form.
abbrev pub listened_filter : Expression → Option Expression
listened_filter everything = Some (bool_literal true)
listened_filter (chain everything ss) = filter_alone ss
listened_filter _ = None
