-- The lemmas by which functions over the forms of a filter are shown, set by set: of chains, of
-- calls beside one other form, and of the filter itself.
use Rattle.cs_syntax.proofs.Views.{expression_array, expression_call, expression_chain, expression_run}
use Rattle.cs_plain.proofs.Tested.{filter_in_bracket, listened_chain}

pub ruleset steps = (expression_chain)

pub ruleset array = (expression_call, expression_array)

pub ruleset chain = (expression_call, expression_chain)

pub ruleset run = (expression_call, expression_run)

pub ruleset filter = (filter_in_bracket)

pub ruleset listened = (listened_chain)
