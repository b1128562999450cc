use Rattle.std.proofs.Common.{◌≡◌, ◌∙◌, sym, ap, map, get_or, Some, refl, arith}
use Rattle.std.proofs.lemmas.List.{get_or-map, length-map}
use Rattle.cs_value.specs.View.{fields}
use Rattle.cs_syntax.specs.Expression.{keys_of}
use Rattle.cs_syntax.specs.Queries.{expression_of}
use Rattle.cs_syntax.specs.View.{order_key_of}
use Rattle.cs_view.specs.View.{document_of}
use Rattle.cs_plan.specs.Simple.{steps_behind, tail_of}
use Rattle.cs_order.specs.Ranked.{ranked as ranked_of}
use Rattle.cs_parts.specs.Parts.{item}
use Rattle.cs_eval.proofs.Bounded.{first_many, keys_found, near_by}
use Rattle.cs_eval.proofs.windows.nearest.Goals as goal

pub index-last-requires : goal.index-last-requires
index-last-requires c =
    let ks = keys_of (map order_key_of c.in-Some.order.now) in
    let low = first_many ks (fields c.args.params.now) (map document_of c.args.docs.now) c.args.place (map ranked_of c.in_ok-first.first.items) c.in_ok-first.ensures (omega (arith, c.requires.within, length-map c.args.docs.now document_of)) in
    omega (arith, low, length-map c.in_ok-first.first.items ranked_of)

pub returns-clause-bound : goal.returns-clause-bound
returns-clause-bound c =
    let e = expression_of c.args.query.now in let ps = fields c.args.params.now in let ds = map document_of c.args.docs.now in
    let ks = keys_of (map order_key_of c.in-Some.order.now) in
    let rs = map ranked_of c.in_ok-first.first.items in
    let one = c.index-last.result.now in
    let place = c.args.place in
    let low = first_many ks ps ds place rs c.in_ok-first.ensures (omega (arith, c.requires.within, length-map c.args.docs.now document_of)) in
    let at : get_or rs place (ranked_of one) ≡ ranked_of one
    = get_or-map ranked_of c.in_ok-first.first.items place one (ranked_of one) (omega (arith, low, length-map c.in_ok-first.first.items ranked_of)) ∙ ap ranked_of (sym c.index-last.ensures) in
    ap Some (c.in_ok-copies.ensures ∙ ap (map item) c.deref.ensures.value)
    ∙ keys_found e ps ds place ks (tail_of (steps_behind e)) rs (ranked_of one) refl (sym c.in-Some.ensures) c.in_ok-first.ensures low at

pub returns-clause-near : goal.returns-clause-near
returns-clause-near c =
    let e = expression_of c.args.query.now in let ps = fields c.args.params.now in let ds = map document_of c.args.docs.now in
    let ks = keys_of (map order_key_of c.in-Some.order.now) in
    c.in_ok-near.ensures ∙ near_by e ps ds ks _ _ (sym c.in-Some.ensures) (sym (c.in_ok-copies.ensures ∙ ap (map item) c.deref.ensures.value))
