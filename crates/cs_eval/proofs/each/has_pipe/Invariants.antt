use Rattle.std.proofs.Common.{◌≡◌, drop, map}
use Rattle.cs_syntax.specs.Expression.{steps_of}
use Rattle.cs_syntax.specs.View.{step_of}
use Rattle.cs_window.specs.Mapped.{has_pipe}
use Rattle.cs_eval.proofs.each.has_pipe.Given as goal

abbrev pub invariant-loop-step : goal.invariant-loop-step
invariant-loop-step l = has_pipe (steps_of (map step_of l.steps)) ≡ has_pipe (steps_of (map step_of (drop l.step-index l.steps)))
