use Rattle.std.proofs.Common.{◌≡◌, false, take}
use Rattle.std.specs.List.{list_any}
use Rattle.cs_func.specs.PathPattern.{is_dot}
use Rattle.cs_func.proofs.path.first_part.Given as goal

abbrev pub invariant-loop-i : goal.invariant-loop-i
invariant-loop-i l = list_any is_dot (take l.i l.bytes) ≡ false
