use Rattle.std.proofs.Common.{◌≡◌, drop}
use Rattle.cs_view.specs.Touched.{touched}
use Rattle.cs_view.specs.View.{edits}
use Rattle.cs_view.proofs.touching.some_touched.Given as goal

abbrev pub invariant-loop-key : goal.invariant-loop-key
invariant-loop-key l = touched (drop l.key-index l.keys) (edits l.changes) ≡ touched l.keys (edits l.changes)
