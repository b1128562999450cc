use Rattle.std.proofs.Common.{◌∙◌}
use Rattle.cs_plan.proofs.PathNames.{path_word}
use Rattle.cs_plan.proofs.paths.path_of.Goals as goal

pub returns-in-Word-deref : goal.returns-in-Word-deref
returns-in-Word-deref c =
    c.of-in-Word-deref.ensures
    ∙ path_word c.args.expr.now c.in-Chain.base c.in-Chain.steps c.deref.result.now c.deref-in-Word-deref.result.now c.in-Word-deref.word c.in-Chain.is c.deref.ensures c.in-Word-deref.is c.deref-in-Word-deref.ensures.value
