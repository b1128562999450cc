use Rattle.std.proofs.Common.{◌≡◌, ◌++◌, drop, map}
use Rattle.cs_value.specs.View.{tree}
use Rattle.cs_jsonmatch.specs.View.{locations}
use Rattle.cs_targets.specs.Targets.{targets_from}
use Rattle.cs_targets.specs.Seen.{seen, seen_of}
use Rattle.cs_targets.proofs.target.targets.Given as goal

abbrev pub invariant-loop-place : goal.invariant-loop-place
invariant-loop-place l =
    map (seen l.fn.names) l.found.items ++ map seen_of (targets_from (tree l.fn.val) l.fn.names (locations (drop l.place-index l.places))) ≡ map seen_of (targets_from (tree l.fn.val) l.fn.names (locations l.places))
