use Rattle.std.proofs.Common.{◌≡◌, ◌+◌, ◌≤◌, ◌<◌, ◌++◌, [], map, length, true, is_some}
use Rattle.std.specs.Prelude.{unwrap_or}
use Rattle.cs_syntax.specs.Expression.{steps_of}
use Rattle.cs_syntax.specs.View.{step_of}
use Rattle.cs_plan.specs.Steps.{names_of}
use Rattle.cs_plan.specs.Parts.{path_names}
use Rattle.cs_plan.proofs.paths.copied_names.Given as goal

abbrev pub invariant-loop-step : goal.invariant-loop-step
invariant-loop-step l = record {
  named : is_some (names_of (steps_of (map step_of l.left))) ≡ true;
  names : l.texts.items ++ unwrap_or (names_of (steps_of (map step_of l.left))) [] ≡ path_names l.word (steps_of (map step_of l.steps));
  some : 0 < length l.texts.items;
  few : length l.texts.items + length l.left ≤ 4;
}

abbrev pub decreases-loop-step : goal.decreases-loop-step
decreases-loop-step l = length l.left
