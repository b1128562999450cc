use Rattle.std.proofs.Common.{ap, ◌∙◌}
use Rattle.std.proofs.lemmas.Option.{IfSome_then}
use Rattle.cs_syntax.specs.Expression.{chain, everything}
use Rattle.cs_eval.proofs.Simples.{star_chain, none_then, not_filtered}
use Rattle.cs_eval.proofs.queries.parts.Goals as goal

pub returns-in-All-clause-some : goal.returns-in-All-clause-some
returns-in-All-clause-some c = IfSome_then c.head_filter.result c.head_filter.ensures.some
    (λ x h. star_chain c.args.expr.now c.in-Chain.base c.in-Chain.steps c.deref.result.now c.deref-in-All.result.now c.in-Chain.is c.deref.ensures c.in-All.is c.deref-in-All.ensures.value ∙ ap (chain everything) h)

pub returns-in-All-clause-none : goal.returns-in-All-clause-none
returns-in-All-clause-none c = none_then c.head_filter.result
    (λ h. not_filtered c.args.expr.now c.in-Chain.base c.in-Chain.steps c.deref.result.now c.deref-in-All.result.now c.in-Chain.is c.deref.ensures c.in-All.is c.deref-in-All.ensures.value h)
    c.head_filter.ensures.none
