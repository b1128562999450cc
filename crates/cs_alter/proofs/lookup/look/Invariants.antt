use Rattle.std.proofs.Common.{◌≡◌, drop}
use Rattle.cs_value.specs.View.{tree}
use Rattle.cs_alter.specs.Within.{at}
use Rattle.cs_alter.proofs.lookup.look.Given as goal

abbrev pub invariant-loop-part : goal.invariant-loop-part
invariant-loop-part l = at l.location (tree l.fn.val) ≡ at (drop l.part-index l.location) (tree l.here)
