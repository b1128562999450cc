use Rattle.std.proofs.Common.{◌≡◌, drop}
use Rattle.cs_value.specs.View.{tree}
use Rattle.cs_value.specs.Words.{followed}
use Rattle.cs_codes.proofs.coding.followed.Given as goal

abbrev pub invariant-loop-name : goal.invariant-loop-name
invariant-loop-name l = followed (drop l.name-index l.names) (tree l.here) ≡ followed l.names (tree l.val)
