use Rattle.std.proofs.Common.{◌≡◌, length}
use Rattle.cs_syntax.specs.Expression.{operands_of}
use Rattle.cs_syntax.specs.View.{operands}
use Rattle.cs_plan.specs.Filters.{all_and}
use Rattle.cs_plan.proofs.given.all_and.Given as goal

abbrev pub invariant-loop-operand : goal.invariant-loop-operand
invariant-loop-operand l = all_and (operands_of (operands l.left)) ≡ all_and (operands_of (operands l.rest))

abbrev pub decreases-loop-operand : goal.decreases-loop-operand
decreases-loop-operand l = length l.left
