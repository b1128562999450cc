use Rattle.std.proofs.Common.{◌≡◌, List, get_or, sym, ap, ◌∙◌, arith}
use Rattle.cs_value.specs.View.{tree}
use Rattle.cs_value.specs.declared.val.Val.{Val}
use Rattle.cs_ops.specs.Equal.{equal}
use Rattle.cs_ops.proofs.Found.{any_at}
use Rattle.cs_ops.proofs.operators.has_equal.Goals as goal

pub returns-then-equal : goal.returns-then-equal
returns-then-equal c =
    let item = c.item-item.result in
    let at : item ≡ get_or c.args.items.now.items c.loop-item.item-index item = c.item-item.is ∙ ap (λ (xs : List Val). get_or xs c.loop-item.item-index item) c.deref-item-items.ensures.value in
    sym (any_at (λ t. equal t (tree c.args.a.now)) tree c.args.items.now.items c.loop-item.item-index item (omega arith)
    (ap (λ (v : Val). equal (tree v) (tree c.args.a.now)) (sym at) ∙ sym c.equal.ensures ∙ c.if-equal.true))
