use Rattle.std.proofs.Common.{◌≡◌, ◌≤◌, drop, length}
use Rattle.cs_meaning.specs.Operators.{signed}
use Rattle.cs_operand.specs.Operands.{operand}
use Rattle.cs_direct.proofs.operators.signed.Given as goal

abbrev pub invariant-loop-at : goal.invariant-loop-at
invariant-loop-at l = record {
  inside : l.at ≤ length l.signs;
  value : operand l.here ≡ signed (drop l.at l.signs) (operand l.fn.a);
}

abbrev pub decreases-loop-at : goal.decreases-loop-at
decreases-loop-at l = l.at
