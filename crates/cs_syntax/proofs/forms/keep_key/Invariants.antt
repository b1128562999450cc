use Rattle.std.proofs.Common.{◌≡◌, map, drop}
use Rattle.cs_syntax.specs.Brackets.{keep_key}
use Rattle.cs_syntax.specs.Expression.{steps_of}
use Rattle.cs_syntax.specs.View.{step_of}
use Rattle.cs_syntax.proofs.forms.keep_key.Given as goal

abbrev pub invariant-loop-step : goal.invariant-loop-step
invariant-loop-step l =
    keep_key (steps_of (map step_of l.steps))
    ≡ keep_key (steps_of (map step_of (drop l.step-index l.steps)))
