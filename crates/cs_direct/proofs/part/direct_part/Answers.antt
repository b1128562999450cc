use Rattle.cs_value.specs.View.{tree}
use Rattle.cs_syntax.specs.View.{expression}
use Rattle.cs_view.specs.Scopes.{scope_of}
use Rattle.cs_direct.proofs.Named.{found_named, found_named_quiet}
use Rattle.cs_direct.proofs.part.direct_part.Goals as goal

pub returns-clause-value : goal.returns-clause-value
returns-clause-value c =
    found_named c.named.result (λ v. tree v.now) (expression c.args.expr.now)
    (scope_of c.args.frame.now) c.named.ensures

pub returns-clause-quiet : goal.returns-clause-quiet
returns-clause-quiet c =
    found_named_quiet c.named.result (λ v. tree v.now) (expression c.args.expr.now)
    (scope_of c.args.frame.now) c.named.ensures
