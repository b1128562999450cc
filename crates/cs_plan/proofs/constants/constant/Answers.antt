use Rattle.std.proofs.Common.{◌∙◌, ap, map}
use Rattle.cs_syntax.specs.Expression.{steps_of}
use Rattle.cs_syntax.specs.View.{step_of}
use Rattle.cs_value.specs.View.{fields}
use Rattle.cs_view.specs.Scopes.{scope_of}
use Rattle.cs_plan.specs.Constants.{scalar_of}
use Rattle.cs_plan.specs.Parts.{tree_at}
use Rattle.cs_plan.proofs.ConstantParts.{constant_chain}
use Rattle.cs_plan.proofs.constants.constant.Goals as goal

pub returns-in-Up-deref : goal.returns-in-Up-deref
returns-in-Up-deref c =
    let ss = c.deref-in-Up-deref.result.now in
    c.scalar_of-in-Up-deref.ensures
    ∙ (ap scalar_of c.at_names.ensures
    ∙ (ap (λ v. scalar_of (tree_at (steps_of (map step_of ss)) v)) c.up_from_unknown-val.ensures
    ∙ constant_chain c.args.expr.now c.in-Chain.base c.in-Chain.steps c.deref-in-Chain.result.now ss c.in-Up-deref.level (scope_of c.args.scope.now) (fields c.args.params.now) c.in-Chain.is c.deref-in-Chain.ensures c.in-Up-deref.is c.deref-in-Up-deref.ensures.value))
