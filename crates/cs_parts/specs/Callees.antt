-- How a call of the code finds its value, and the arguments of a call of `path`.
use Rattle.std.specs.Prelude.{Option, Some, None, if◌then◌else◌}
use Rattle.cs_syntax.specs.Expression.{Expression, call, Arguments}
use Rattle.cs_syntax.specs.Faults.{is_path}
use Rattle.cs_meaning.specs.Operators as operators
use Rattle.cs_parts.specs.declared.calls.Callee.{Callee}
use Rattle.cs_parts.specs.declared.calls.Callee.TheVariants.{Coalesce, Select, References, Values}

-- the callee of the definition that the code's stands for
abbrev pub meant : Callee → operators.Callee
meant Coalesce = operators.coalescing
meant Select = operators.selecting
meant References = operators.referring
meant (Values f) = operators.applying f

-- the arguments of a call of `path`; none of another expression
abbrev pub path_arguments : Expression → Option Arguments
path_arguments (call name args) = if is_path name then Some args else None
path_arguments _ = None
