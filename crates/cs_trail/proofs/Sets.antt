-- The lemmas by which functions over the forms of a step are shown.
use Rattle.cs_syntax.proofs.Views.{step_bracket, step_pipe, step_project, step_slice}

pub ruleset links = (step_bracket, step_pipe, step_project, step_slice)
