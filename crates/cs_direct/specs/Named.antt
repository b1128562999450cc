-- The value in a scope that an expression names: `@`, `^`, a word, or names behind one of these:
-- GROQ-1.revision1, "This", "Parent", "Attribute access".
use Rattle.std.specs.Prelude.{List, Option, Some, None, option_and_then, slice_get}
use Rattle.cs_value.specs.Tree.{Tree}
use Rattle.cs_value.specs.Pairs.{attribute}
use Rattle.cs_syntax.specs.Expression.{Expression, word, this, parent, chain, Steps, no_steps, more_steps}
use Rattle.cs_plan.specs.Steps.{name_of}

-- what names find behind a value; none where there is none, or another step is among them
abbrev pub behind : Steps → Tree → Option Tree
behind no_steps v = Some v
behind (more_steps s ss) v =
    option_and_then (λ name. option_and_then (behind ss) (attribute name v)) (name_of s)

abbrev pub named : Expression → List Tree → Option Tree
named this scope = slice_get scope 0
named (parent n) scope = slice_get scope n
named (word w) scope = option_and_then (attribute w) (slice_get scope 0)
named (chain base ss) scope = option_and_then (behind ss) (named base scope)
named _ scope = None
