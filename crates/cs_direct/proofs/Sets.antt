-- The lemmas by which functions over the forms of an expression are shown.
use Rattle.cs_syntax.proofs.Views.{expression_array, expression_between, expression_call, expression_chain, expression_object, expression_prefix, expression_run, expression_within}
use Rattle.cs_direct.proofs.Paths.{no_path, path_has, path_looks}

pub ruleset nodes = (expression_call, expression_array, expression_object, expression_chain, expression_run, expression_prefix, expression_within, expression_between)

pub ruleset paths = (path_has, no_path, path_looks)
