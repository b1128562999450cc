use Rattle.std.proofs.Common.{◌≡◌, drop}
use Rattle.cs_value.specs.View.{tree}
use Rattle.cs_alter.specs.Within.{reach}
use Rattle.cs_targets.specs.Seen.{way_of}
use Rattle.cs_targets.proofs.target.way.Given as goal

abbrev pub invariant-loop-name : goal.invariant-loop-name
invariant-loop-name l = way_of (reach l.names (tree l.fn.val)) ≡ way_of (reach (drop l.name-index l.names) (tree l.here))
