use Rattle.std.proofs.Common.{◌≡◌, ◌++◌, drop}
use Rattle.cs_jsonmatch.specs.View.{locations}
use Rattle.cs_alter.specs.Inserted.{positions}
use Rattle.cs_alter.proofs.insert.positions.Given as goal

abbrev pub invariant-loop-place : goal.invariant-loop-place
invariant-loop-place l =
    l.found.items ++ positions (locations (drop l.place-index l.places)) ≡ positions (locations l.places)
