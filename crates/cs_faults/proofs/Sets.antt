-- The lemmas by which functions over the forms of an expression are shown, set by set.
use Rattle.cs_syntax.proofs.Views.{expression_call, expression_run}
use Rattle.cs_faults.proofs.Firsts.{first_append}

pub ruleset call = (expression_call)

pub ruleset run = (expression_run)

pub ruleset first = (first_append)
