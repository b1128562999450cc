use Rattle.std.proofs.Common.{◌≡◌, drop, map}
use Rattle.cs_syntax.specs.Expression.{steps_of}
use Rattle.cs_syntax.specs.View.{step_of}
use Rattle.cs_trail.specs.Trail.{is_trail}
use Rattle.cs_trail.proofs.trail.is_trail.Given as goal

abbrev pub invariant-loop-step : goal.invariant-loop-step
invariant-loop-step l =
    is_trail (steps_of (map step_of l.steps))
    ≡ is_trail (steps_of (map step_of (drop l.step-index l.steps)))
