use Rattle.std.proofs.Common.{◌∙◌}
use Rattle.cs_plan.proofs.Conditions.{simple_chain}
use Rattle.cs_plan.proofs.tails.is_simple.Goals as goal

pub returns-in-All : goal.returns-in-All
returns-in-All c = c.is_simple_rest.ensures ∙ simple_chain c.args.expr.now c.in-Chain.base c.in-Chain.steps c.deref.result.now c.deref-in-All.result.now c.in-Chain.is c.deref.ensures c.in-All.is c.deref-in-All.ensures.value
