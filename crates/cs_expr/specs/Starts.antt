-- Parts of the value of a chain, and of what it looks up.
use Rattle.std.specs.Prelude.{◌&&◌, ◌++◌, List, if◌then◌else◌}
use Rattle.cs_value.specs.Tree.{Tree, Pairs}
use Rattle.cs_syntax.specs.Expression.{Expression, Steps}
use Rattle.cs_view.specs.declared.key.Key.{Key}
use Rattle.cs_meaning.specs.declared.join.Way.{Way}
use Rattle.cs_meaning.specs.declared.join.Way.TheVariants.{Over}
use Rattle.cs_meaning.specs.Joining.{mapped, kind, entrance, entered, base_entrance}
use Rattle.cs_meaning.specs.Values.{value, rest_value}
use Rattle.cs_meaning.specs.Looked.{looked, rest_looked, filter_looked, entered_looked, each_looked, is_everything, starts_with_filter}

-- a chain up to its first piped call
abbrev pub start_value : List Tree → Pairs → Expression → Steps → List Tree → Tree
start_value docs params base ss scope =
    entered (base_entrance base (kind ss)) (rest_value docs params ss scope)
    (value docs params base scope)

abbrev pub start_looked : List Tree → Pairs → Expression → Steps → List Tree → List Key
start_looked docs params base ss scope =
    if is_everything base && starts_with_filter ss then filter_looked docs params ss scope
    else looked docs params base scope
    ++ entered_looked (base_entrance base (kind ss)) (rest_looked docs params ss scope)
    (value docs params base scope)

-- an array enters a rest
abbrev pub enter_value : List Tree → Pairs → Steps → List Tree → Tree → Tree
enter_value docs params ss scope v =
    entered (entrance (kind ss)) (rest_value docs params ss scope) v

abbrev pub enter_looked : List Tree → Pairs → Steps → List Tree → Tree → List Key
enter_looked docs params ss scope v =
    entered_looked (entrance (kind ss)) (rest_looked docs params ss scope) v

-- one step, mapped over an array where the way says so
abbrev pub once : Way → (Tree → Tree) → Tree → Tree
once Over f v = mapped f v
once way f v = f v

abbrev pub once_looked : Way → (Tree → List Key) → Tree → List Key
once_looked Over f v = each_looked f v
once_looked way f v = f v
