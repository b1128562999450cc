use Rattle.std.proofs.Common.{◌≡◌, map, drop}
use Rattle.cs_syntax.specs.Expression.{steps_of}
use Rattle.cs_syntax.specs.View.{step_of}
use Rattle.cs_plan.specs.Simple.{are_tail_steps}
use Rattle.cs_plan.proofs.tails.are_tail_steps.Given as goal

abbrev pub invariant-loop-step : goal.invariant-loop-step
invariant-loop-step l = are_tail_steps (steps_of (map step_of l.steps)) ≡ are_tail_steps (steps_of (map step_of (drop l.step-index l.steps)))
