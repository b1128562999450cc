-- The lemmas by which functions over the forms of an expression are shown, set by set.
use Rattle.cs_syntax.proofs.Views.{expression_array, expression_between, expression_call, expression_chain, expression_object, expression_prefix, expression_run, expression_within, step_bracket, step_pipe, step_project, step_slice}
use Rattle.cs_plan.proofs.Choices.{given_both, given_in_run, keys_of_other, keys_of_run, one_key}
use Rattle.cs_plan.proofs.ConstantParts.{conjunct_run, constant_prefix, literal_number, negative_number}
use Rattle.cs_plan.proofs.PathNames.{few_names, no_names, too_many}

pub ruleset constant = (constant_prefix, literal_number, negative_number, expression_chain, expression_prefix)

pub ruleset conjunct = (conjunct_run, expression_run, expression_call, expression_within)

pub ruleset given = (keys_of_run, keys_of_other, given_both, given_in_run, one_key, expression_run)

pub ruleset names = (few_names, no_names, too_many)

pub ruleset parts = (expression_call, expression_array, expression_object, expression_chain, expression_prefix, expression_run, expression_within, expression_between)

pub ruleset steps = (step_slice, step_bracket, step_project, step_pipe)
