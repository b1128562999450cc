use Rattle.std.proofs.Common.{◌≡◌, map, drop, is_some}
use Rattle.cs_syntax.specs.Expression.{steps_of}
use Rattle.cs_syntax.specs.View.{step_of}
use Rattle.cs_plan.specs.Steps.{names_of}
use Rattle.cs_plan.proofs.steps.are_names.Given as goal

abbrev pub invariant-loop-step : goal.invariant-loop-step
invariant-loop-step l = is_some (names_of (steps_of (map step_of l.steps))) ≡ is_some (names_of (steps_of (map step_of (drop l.step-index l.steps))))
