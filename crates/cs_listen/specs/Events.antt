-- What a listener hears of changes: Sanity's HTTP documentation, "Listening", in this project's
-- profile.
use Rattle.std.specs.Prelude.{ℕ, List, Bool, true, false, cond, Option, Some, None, flat_map, filter_map, option_map}
use Rattle.cs_value.specs.Tree.{Tree, Pairs}
use Rattle.cs_syntax.specs.Expression.{Expression}
use Rattle.cs_view.specs.Changes.{Edit}
use Rattle.cs_view.specs.Document.{rev_of}
use Rattle.cs_plain.specs.Holds.{holds}
use Rattle.cs_reply.specs.Reply.{Event, Transition, appear, changed, disappear}

-- a listener: its name, the filter that it watches, and which documents its events carry
pub record Listener : Type 0 where
  pub name : List ℕ
  pub filter : Expression
  pub params : Pairs
  pub with_result : Bool
  pub with_previous : Bool

-- the filter is true of what stands there; of nothing it is not
abbrev pub sees : Expression → Pairs → Option Tree → Bool
sees filter params None = false
sees filter params (Some d) = holds filter params d

-- from whether the filter was true before and is after
abbrev pub turned : Bool → Bool → Option Transition
turned false false = None
turned false true = Some appear
turned true false = Some disappear
turned true true = Some changed

-- what a filter sees of a change
abbrev pub transition : Expression → Pairs → Edit → Option Transition
transition filter params c = turned (sees filter params c.1.0) (sees filter params c.1.1)

abbrev pub where_asked : Bool → Option Tree → Option Tree
where_asked asked d = cond asked d None

-- the event of a transaction's change, at the moment
abbrev pub event_of : List ℕ → List ℕ → Listener → Edit → Transition → Event
event_of tx moment l c t = record {
  listener = l.name;
  id = c.0;
  transition = t;
  previous_rev = option_map rev_of c.1.0;
  result_rev = option_map rev_of c.1.1;
  previous = where_asked l.with_previous c.1.0;
  result = where_asked l.with_result c.1.1;
  tx = tx;
  moment = moment;
}

-- what one listener hears of one change
abbrev pub heard : List ℕ → List ℕ → Listener → Edit → Option Event
heard tx moment l c = option_map (event_of tx moment l c) (transition l.filter l.params c)

-- the events of a transaction's changes: by listener in the order made, and then by id
abbrev pub events : List ℕ → List ℕ → List Edit → List Listener → List Event
events tx moment cs ls = flat_map (λ l. filter_map (heard tx moment l) cs) ls
