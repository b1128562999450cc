use Rattle.std.proofs.Common.{◌∙◌, sym, ap, slice_get}
use Rattle.cs_value.specs.View.{tree}
use Rattle.cs_view.specs.Scopes.{scope_of}
use Rattle.cs_view.specs.declared.scope.Scope.{out-Scope}
use Rattle.cs_plan.proofs.Levels.{one_out, one_frame}
use Rattle.cs_plan.proofs.scopes.+up.Goals as goal

pub returns-in-Some : goal.returns-in-Some
returns-in-Some t c =
    let s = c.args.scope.now in let this = (out-Scope s).this in
    c.up.ensures ∙ (sym (one_out (tree this.now) (scope_of c.in-Some.parent.now) c.args.level c.if-level-eq0.false)
    ∙ sym (ap (λ xs. slice_get xs c.args.level) (one_frame s c.in-Some.parent c.in-Some.is)))
