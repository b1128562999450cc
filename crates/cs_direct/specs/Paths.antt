-- A call of `path` on the right of `in`: GROQ-1.revision1, "In operator", "path()".
use Rattle.std.specs.Prelude.{Bool, false}
use Rattle.cs_syntax.specs.Expression.{Expression, call, Arguments, no_arguments}
use Rattle.cs_syntax.specs.Faults.{is_path}

abbrev pub is_path_call : Expression → Bool
is_path_call (call name args) = is_path name
is_path_call _ = false

-- the arguments of a call; none of another expression
abbrev pub arguments_in : Expression → Arguments
arguments_in (call name args) = args
arguments_in _ = no_arguments
