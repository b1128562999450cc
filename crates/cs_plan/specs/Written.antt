-- Expressions, values and documents written in few words, for the examples.
use Rattle.std.specs.Prelude.{ℕ, pos, List, map}
use Rattle.cs_value.specs.Tree.{Tree, integer, object, pairs}
use Rattle.cs_syntax.specs.declared.tree.BinSign.{BinSign}
use Rattle.cs_syntax.specs.Expression.{Expression, array, object_literal, chain, run, call, everything, no_operands, more_operands, Step, project, Entry, keyed, element, argument, elements_of, entries_of, arguments_of, steps_of}

-- A base and its steps.
abbrev pub path : Expression → List Step → Expression
path base steps = chain base (steps_of steps)

-- `*` and its steps.
abbrev pub from_all : List Step → Expression
from_all steps = path everything steps

-- An operator between two expressions.
abbrev pub binary_of : Expression → BinSign → Expression → Expression
binary_of left sign right = run left (more_operands sign right no_operands)

-- An array literal of these, without `...`.
abbrev pub listed : List Expression → Expression
listed es = array (elements_of (map element es))

-- An object literal of these keys and values.
abbrev pub record_of : List (List ℕ × Expression) → Expression
record_of xs = object_literal (entries_of (map (λ x. keyed x.0 x.1) xs))

-- A call with these arguments, none with `=>`.
abbrev pub calling : List ℕ → List Expression → Expression
calling name es = call name (arguments_of (map argument es))

-- A projection of these entries.
abbrev pub projecting : List Entry → Step
projecting es = project (entries_of es)

-- A whole number from 0 on.
abbrev pub whole : ℕ → Tree
whole n = integer (pos n)

-- An object of these attributes.
abbrev pub object_of : List (List ℕ × Tree) → Tree
object_of xs = object (pairs xs)
