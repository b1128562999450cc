-- What steps that are all names make of a value: GROQ-1.revision1, "Attribute access".
use Rattle.std.specs.Prelude.{Option, Some, option_and_then}
use Rattle.cs_value.specs.Tree.{Tree}
use Rattle.cs_syntax.specs.Expression.{Steps, no_steps, more_steps}
use Rattle.cs_plan.specs.Steps.{name_of}
use Rattle.cs_value.specs.Words.{field}

-- none where another step is among them
abbrev pub followed : Steps → Tree → Option Tree
followed no_steps v = Some v
followed (more_steps s ss) v = option_and_then (λ name. followed ss (field name v)) (name_of s)
