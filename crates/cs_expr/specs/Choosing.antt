-- What an argument of `select` stands for: GROQ-1.revision1, "select()". For private
-- clauses.
use Rattle.std.specs.Prelude.{List, [], Option, Some, None, if◌then◌else◌}
use Rattle.cs_value.specs.Tree.{Tree, Pairs}
use Rattle.cs_syntax.specs.Expression.{Expression, Argument, argument, when_argument}
use Rattle.cs_view.specs.declared.key.Key.{Key}
use Rattle.cs_meaning.specs.Looked.{looked}
use Rattle.cs_meaning.specs.Operators.{is_true}
use Rattle.cs_meaning.specs.Values.{value}

-- its expression where it has no condition, or one that is true
abbrev pub chosen : List Tree → Pairs → Argument → List Tree → Option Expression
chosen docs params (argument e) scope = Some e
chosen docs params (when_argument c e) scope = if is_true (value docs params c scope) then Some e
    else None

-- what its condition looks up
abbrev pub chosen_looked : List Tree → Pairs → Argument → List Tree → List Key
chosen_looked docs params (argument e) scope = []
chosen_looked docs params (when_argument c e) scope = looked docs params c scope
