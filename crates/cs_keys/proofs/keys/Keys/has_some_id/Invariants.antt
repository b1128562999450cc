use Rattle.std.proofs.Common.{◌≡◌, drop}
use Rattle.cs_view.specs.Touched.{touched}
use Rattle.cs_view.specs.View.{edits}
use Rattle.cs_view.proofs.Changed.{OwnIds}
use Rattle.cs_keys.specs.Keys.{ids_of}
use Rattle.cs_keys.proofs.keys.Keys.has_some_id.Given as goal

abbrev pub invariant-loop-change : goal.invariant-loop-change
invariant-loop-change l = record {
  left : touched (ids_of l.self) (edits (drop l.change-index l.changes)) ≡ touched (ids_of l.self) (edits l.changes);
  own : OwnIds (edits (drop l.change-index l.changes));
}
