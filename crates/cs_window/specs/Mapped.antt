-- Queries whose answer is made hit by hit: this project's profile.
use Rattle.std.specs.Prelude.{Bool, true, false, not, ◌&&◌, ◌||◌, List, [], ◌∷◌}
use Rattle.cs_value.specs.Tree.{Tree, null, Pairs}
use Rattle.cs_syntax.specs.Expression.{Expression, Steps, no_steps, more_steps}
use Rattle.cs_view.specs.declared.key.Key.{Key}
use Rattle.cs_plan.specs.Simple.{is_quiet, filter_of, tail_of, steps_behind}
use Rattle.cs_meaning.specs.Joining.{form, kind, entrance}
use Rattle.cs_meaning.specs.Looked.{rest_looked}
use Rattle.cs_meaning.specs.Values.{rest_value}
use Rattle.cs_meaning.specs.declared.join.Entrance.{Entrance}
use Rattle.cs_meaning.specs.declared.join.Entrance.TheVariants.{Whole, Mapped, Flat}
use Rattle.cs_meaning.specs.declared.join.Form.{Form}
use Rattle.cs_meaning.specs.declared.join.Form.TheVariants.{Single, Projection, Listing, Element, Pipe}
use Rattle.cs_window.specs.Windowed.{is_filtered}

-- A list enters element by element, and each gives one value.
abbrev pub is_elementwise : Entrance → Bool
is_elementwise Whole = false
is_elementwise Mapped = true
is_elementwise Flat = false

abbrev pub is_piped : Form → Bool
is_piped Single = false
is_piped Projection = false
is_piped Listing = false
is_piped Element = false
is_piped Pipe = true

-- A piped call stands among the steps.
abbrev pub has_pipe : Steps → Bool
has_pipe no_steps = false
has_pipe (more_steps s ss) = is_piped (form s) || has_pipe ss

-- The steps make one value of each element of a list, and do nothing with the list.
abbrev pub maps_each : Steps → Bool
maps_each ss = is_elementwise (entrance (kind ss)) && not (has_pipe ss)

-- A query is mapped: its filter looks nothing up, and the steps behind it make one value of each
-- hit. What they look up for it may be anything.
abbrev pub is_mapped : Expression → Bool
is_mapped e =
    is_filtered e
    && (is_quiet (filter_of (steps_behind e)) && maps_each (tail_of (steps_behind e)))

-- The share of a hit in the answer: what the steps behind the filter make of it over a dataset.
abbrev pub share : List Tree → Expression → Pairs → Tree → Tree
share docs e params d = rest_value docs params (tail_of (steps_behind e)) (null ∷ []) d

-- What finding the share looks up.
abbrev pub share_looked : List Tree → Expression → Pairs → Tree → List Key
share_looked docs e params d = rest_looked docs params (tail_of (steps_behind e)) (null ∷ []) d
