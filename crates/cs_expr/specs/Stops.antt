-- How far a chain has come: to the end of a rest, or to what goes through a rest next.
-- For private clauses.
use Rattle.std.specs.Prelude.{Bool, true, false, List, []}
use Rattle.cs_value.specs.Tree.{Tree, Pairs}
use Rattle.cs_syntax.specs.Expression.{Steps, no_steps, more_steps}
use Rattle.cs_view.specs.declared.key.Key.{Key}
use Rattle.cs_meaning.specs.declared.join.Way.{Way}
use Rattle.cs_meaning.specs.declared.join.Way.TheVariants.{Through, Over, After, Ends}
use Rattle.cs_meaning.specs.declared.join.Entrance.{Entrance}
use Rattle.cs_meaning.specs.declared.join.Entrance.TheVariants as entrance_of
use Rattle.cs_meaning.specs.declared.join.Entrance.TheVariants.{Mapped, Flat}
use Rattle.cs_meaning.specs.Joining.{mapped, form, kind, way, entrance}
use Rattle.cs_meaning.specs.Values.{rest_value, step_value}
use Rattle.cs_meaning.specs.Looked.{rest_looked, each_looked}
use Rattle.cs_levels.specs.declared.levels.Reached.{Reached}
use Rattle.cs_levels.specs.declared.levels.Reached.TheVariants.{End, Whole, Each}
use Rattle.cs_parts.specs.Parts.{got}
use Rattle.cs_levels.specs.Levels.{one_by_one}
use Rattle.cs_levels.specs.Nodes.{steps_in}

-- the end of a rest with its value, or a value that goes through the steps, or a list whose
-- elements go through them one by one, where the lists among their results are joined or not
pub data Stop : Type 0 where
  at_end : Tree → Stop
  at_rest : Steps → Tree → Stop
  at_each : Bool → Steps → Tree → Stop

-- the stop of an array that enters a rest
abbrev pub entered_stop : Entrance → Steps → (Tree → Stop) → Tree → Stop
entered_stop entrance_of.Whole ss rest v = rest v
entered_stop Mapped ss rest v = at_each false ss v
entered_stop Flat ss rest v = at_each true ss v

-- the stop of a step and the rest behind it
abbrev pub onward_stop : Way → Entrance → Steps → (Tree → Tree) → (Tree → Stop) → Tree → Stop
onward_stop Through enter ss step rest v = rest (step v)
onward_stop Over enter ss step rest v = rest (mapped step v)
onward_stop After enter ss step rest v = entered_stop enter ss rest (step v)
onward_stop Ends enter ss step rest v = at_end v

-- how far a value comes in a rest before a list's elements go on one by one
abbrev pub stop : List Tree → Pairs → Steps → List Tree → Tree → Stop
stop docs params no_steps scope v = at_end v
stop docs params (more_steps s ss) scope v =
    onward_stop (way (form s) (kind ss)) (entrance (kind ss)) ss
    (step_value docs params s scope) (stop docs params ss scope) v

-- a value goes through a rest as it is
abbrev pub is_whole : Entrance → Bool
is_whole entrance_of.Whole = true
is_whole entrance = false

-- what comes of a stop, and what that looks up
abbrev pub stop_value : List Tree → Pairs → List Tree → Stop → Tree
stop_value docs params scope (at_end v) = v
stop_value docs params scope (at_rest ss v) = rest_value docs params ss scope v
stop_value docs params scope (at_each joins ss v) =
    one_by_one joins (rest_value docs params ss scope) v

abbrev pub stop_looked : List Tree → Pairs → List Tree → Stop → List Key
stop_looked docs params scope (at_end v) = []
stop_looked docs params scope (at_rest ss v) = rest_looked docs params ss scope v
stop_looked docs params scope (at_each joins ss v) = each_looked
    (rest_looked docs params ss scope) v

-- the stop that a chain has reached
abbrev pub stopped : Reached → Stop
stopped (End g) = at_end (got g)
stopped (Whole g r) = at_rest (steps_in r) (got g)
stopped (Each g joins r) = at_each joins (steps_in r) (got g)
