use Rattle.std.proofs.Common.{◌≡◌, ◌∙◌, sym, ap, map, Bool, not, ◌&&◌}
use Rattle.cs_syntax.specs.Expression.{Steps, steps_of}
use Rattle.cs_syntax.specs.View.{step_of}
use Rattle.cs_meaning.specs.Joining.{kind, entrance}
use Rattle.cs_parts.specs.Kinds.{first_kind}
use Rattle.cs_expr.proofs.Joins.{first_of_kinds}
use Rattle.cs_window.specs.Mapped.{has_pipe, is_elementwise}
use Rattle.cs_eval.proofs.each.maps_each.Goals as goal

pub returns-then-not-is_elementwise : goal.returns-then-not-is_elementwise
returns-then-not-is_elementwise c =
    let ss : Steps = steps_of (map step_of c.args.steps.now) in
    let enters : c.entrance_of.result ≡ entrance (kind ss)
    = c.entrance_of.ensures ∙ ap entrance (c.first_kind.ensures ∙ ap first_kind (c.deref.ensures ∙ c.in_ok-kinds.ensures) ∙ first_of_kinds (map step_of c.args.steps.now)) in
    ap (λ (b : Bool). b && not (has_pipe ss)) (sym c.if-not-is_elementwise.true ∙ c.is_elementwise.ensures ∙ ap is_elementwise enters)

pub returns : goal.returns
returns c =
    let ss : Steps = steps_of (map step_of c.args.steps.now) in
    let enters : c.entrance_of.result ≡ entrance (kind ss)
    = c.entrance_of.ensures ∙ ap entrance (c.first_kind.ensures ∙ ap first_kind (c.deref.ensures ∙ c.in_ok-kinds.ensures) ∙ first_of_kinds (map step_of c.args.steps.now)) in
    ap not c.has_pipe.ensures ∙ ap (λ (b : Bool). b && not (has_pipe ss)) (sym c.if-not-is_elementwise.false ∙ c.is_elementwise.ensures ∙ ap is_elementwise enters)
