-- The lemma by which a function over the forms of a step is shown.
use Rattle.cs_syntax.proofs.Views.{step_slice}

pub ruleset slice = (step_slice)
