use Rattle.std.proofs.Common.{◌≡◌, map, length}
use Rattle.cs_syntax.specs.Expression.{steps_of}
use Rattle.cs_syntax.specs.View.{step_of}
use Rattle.cs_plan.specs.Parts.{tree_at, value_or_null}
use Rattle.cs_plan.proofs.steps.at_names.Given as goal

abbrev pub invariant-loop-step : goal.invariant-loop-step
invariant-loop-step l =
    tree_at (steps_of (map step_of l.left)) (value_or_null l.here)
    ≡ tree_at (steps_of (map step_of l.steps)) (value_or_null l.fn.val)

abbrev pub decreases-loop-step : goal.decreases-loop-step
decreases-loop-step l = length l.left
