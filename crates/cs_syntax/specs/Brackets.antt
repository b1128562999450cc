-- What stands in the bracket of a step, and the key of an entry without one: GROQ-1.revision1,
-- "Compound expressions" and "Object", as this project's profile has them.
use Rattle.std.specs.Prelude.{ℕ, List, [], ◌∷◌, Bool, true, false, ◌&&◌, Option, Some, None, if◌then◌else◌}
use Rattle.cs_syntax.specs.declared.tree.BinSign.{BinSign}
use Rattle.cs_syntax.specs.declared.tree.BinSign.TheVariants as operator
use Rattle.cs_syntax.specs.declared.tree.PreSign.{PreSign}
use Rattle.cs_syntax.specs.declared.tree.PreSign.TheVariants as sign
use Rattle.cs_syntax.specs.Expression.{Expression, number_literal, text_literal, word, round, chain, prefix, run, Operands, no_operands, more_operands, Step, attr, deref, each, slice, bracket, project, pipe, Steps, no_steps, more_steps}

abbrev pub is_number : Expression → Bool
is_number (number_literal n) = true
is_number _ = false

-- a number, or `-` and a number
abbrev pub is_position : Expression → Bool
is_position (prefix (sign.Minus ∷ []) e) = is_number e
is_position e = is_number e

-- a text alone, by which a bracket takes an attribute
abbrev pub is_text : Expression → Bool
is_text (text_literal s) = true
is_text _ = false

-- the text that an expression is, if it is one alone
abbrev pub text_alone : Expression → Option (List ℕ)
text_alone (text_literal s) = Some s
text_alone _ = None

-- only `+` and `-` stand in front
abbrev pub are_signs : List PreSign → Bool
are_signs [] = true
are_signs (sign.Not ∷ ps) = false
are_signs (p ∷ ps) = are_signs ps

-- `+`, `-`, `*`, `/` and `%`
abbrev pub is_arithmetic : BinSign → Bool
is_arithmetic operator.Add = true
is_arithmetic operator.Sub = true
is_arithmetic operator.Mul = true
is_arithmetic operator.Div = true
is_arithmetic operator.Rem = true
is_arithmetic _ = false

-- made only of numbers, texts, round brackets, `+` and `-` in front, and arithmetic
abbrev mutual
  pub is_constant : Expression → Bool
  is_constant (number_literal n) = true
  is_constant (text_literal s) = true
  is_constant (round e) = is_constant e
  is_constant (prefix ps e) = are_signs ps && is_constant e
  is_constant (run e rest) = is_constant e && are_constant rest
  is_constant _ = false

  pub are_constant : Operands → Bool
  are_constant no_operands = true
  are_constant (more_operands o e rest) = (is_arithmetic o && is_constant e) && are_constant rest

-- the step leaves a word its key: it is `->`, `[]`, a projection, a filter, a slice or an element
abbrev pub keeps_key : Step → Bool
keeps_key deref = true
keeps_key each = true
keeps_key (slice from to closed) = true
keeps_key (bracket e) = if is_text e then false else true
keeps_key (project es) = true
keeps_key (attr w) = false
keeps_key (pipe name ks) = false

abbrev pub keep_key : Steps → Bool
keep_key no_steps = true
keep_key (more_steps s ss) = keeps_key s && keep_key ss

-- the key of an entry that is an expression alone: a word, from which no step takes an attribute
-- or a piped call
abbrev pub key_of : Expression → Option (List ℕ)
key_of (word w) = Some w
key_of (chain (word w) ss) = if keep_key ss then Some w else None
key_of _ = None
