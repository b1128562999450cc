use Rattle.std.proofs.Common.{◌∙◌}
use Rattle.cs_plain.proofs.Tested.{listened_chain}
use Rattle.cs_plain.proofs.listened.is_listened.Goals as goal

pub returns-in-All-deref : goal.returns-in-All-deref
returns-in-All-deref c =
    c.is_filter_alone.ensures
    ∙ listened_chain c.args.expr.now c.in-Chain.base c.in-Chain.steps c.deref.result.now
    c.deref-in-All-deref.result.now c.in-Chain.is c.deref.ensures c.in-All-deref.is
    c.deref-in-All-deref.ensures.value
