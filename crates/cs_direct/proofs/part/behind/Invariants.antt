use Rattle.std.proofs.Common.{◌≡◌, drop, map}
use Rattle.cs_value.specs.View.{tree}
use Rattle.cs_syntax.specs.Expression.{steps_of}
use Rattle.cs_syntax.specs.View.{step_of}
use Rattle.cs_direct.specs.Named.{behind}
use Rattle.cs_direct.proofs.part.behind.Given as goal

abbrev pub invariant-loop-step : goal.invariant-loop-step
invariant-loop-step l =
    behind (steps_of (map step_of l.steps)) (tree l.fn.start)
    ≡ behind (steps_of (map step_of (drop l.step-index l.steps))) (tree l.here)
