use Rattle.std.proofs.Common.{◌∙◌, map, sym}
use Rattle.cs_value.specs.View.{tree, fields}
use Rattle.cs_syntax.specs.Expression.{keys_of}
use Rattle.cs_syntax.specs.Queries.{expression_of}
use Rattle.cs_syntax.specs.View.{order_key_of}
use Rattle.cs_view.specs.View.{document_of}
use Rattle.cs_parts.specs.Parts.{item}
use Rattle.cs_eval.proofs.Bounded.{if_ok_then, near_one}
use Rattle.cs_eval.proofs.windows.is_near.Goals as goal

pub returns : goal.returns
returns c =
    let e = expression_of c.args.query.now in
    let ks = keys_of (map order_key_of c.in-Some.order.now) in
    if_ok_then c.is_not_behind.result
    (λ b h. h ∙ near_one e (fields c.args.params.now) ks (map item c.in_ok-lend_all.field-0.items) (map tree c.args.bound.now) (tree c.val.result.now) (document_of c.args.doc.now) (sym c.in-Some.ensures) c.in_ok-lend_all.ensures c.val.ensures)
    c.is_not_behind.ensures
