-- The lemmas by which functions over the forms of an expression are shown, set by set.
use Rattle.cs_syntax.proofs.Views.{expression_array, expression_call, expression_chain, expression_object, expression_prefix, expression_run, step_pipe, step_project, step_slice}
use Rattle.cs_parts.proofs.Trees.{tree_of_null}
use Rattle.cs_expr.proofs.Joins.{once_over, once_other, projected_object, projected_other}

pub ruleset nodes = (expression_call, expression_array, expression_object, expression_chain, expression_run, expression_prefix, tree_of_null)

pub ruleset null = (tree_of_null)

pub ruleset step = (step_project, step_pipe, step_slice)

pub ruleset projection = (tree_of_null, projected_object, projected_other)

pub ruleset once = (tree_of_null, once_over, once_other)
