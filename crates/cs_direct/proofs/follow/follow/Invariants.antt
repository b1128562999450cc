use Rattle.std.proofs.Common.{◌≡◌, drop, map}
use Rattle.cs_syntax.specs.Expression.{steps_of}
use Rattle.cs_syntax.specs.View.{step_of}
use Rattle.cs_direct.specs.Follows.{followed}
use Rattle.cs_operand.specs.Operands.{operand}
use Rattle.cs_direct.proofs.follow.follow.Given as goal

abbrev pub invariant-loop-step : goal.invariant-loop-step
invariant-loop-step l =
    followed (steps_of (map step_of l.steps)) (operand l.fn.start)
    ≡ followed (steps_of (map step_of (drop l.step-index l.steps))) (operand l.here)
