use Rattle.cs_value.specs.View.{fields}
use Rattle.cs_syntax.specs.View.{expression}
use Rattle.cs_view.specs.Scopes.{scope_of}
use Rattle.cs_direct.proofs.Settled.{settled_value, settled_quiet}
use Rattle.cs_direct.proofs.expressions.direct.Goals as goal

pub returns-clause-value : goal.returns-clause-value
returns-clause-value c =
    settled_value c.looked_settles_value.ensures (fields c.args.params.now)
    (expression c.args.expr.now) (scope_of c.args.frame.now) c.evaluate.result
    c.evaluate.ensures.value c.evaluate.ensures.quiet

pub returns-clause-quiet : goal.returns-clause-quiet
returns-clause-quiet c =
    settled_quiet c.looked_settles_value.ensures (fields c.args.params.now)
    (expression c.args.expr.now) (scope_of c.args.frame.now) c.evaluate.result
    c.evaluate.ensures.quiet
