use Rattle.std.proofs.Common.{◌≡◌, ◌∷◌, ◌∙◌, ◌-◌, length, map, get_or, sym, ap, is_lt, false, arith}
use Rattle.std.proofs.lemmas.Bool.{not-true}
use Rattle.std.proofs.lemmas.List.{get_or-map, length-map}
use Rattle.cs_value.specs.View.{tree}
use Rattle.cs_syntax.specs.Expression.{keys_of}
use Rattle.cs_syntax.specs.View.{order_key_of}
use Rattle.cs_view.specs.Scopes.{scope_of}
use Rattle.cs_meaning.specs.Ordered.{by_keys, Ranked}
use Rattle.cs_meaning.specs.Values.{keys_values}
use Rattle.cs_parts.specs.Parts.{item}
use Rattle.cs_order.specs.Ranked.{ranked as ranked_of}
use Rattle.cs_past.proofs.Keyed.{none_of_first}
use Rattle.cs_past.proofs.past.is_past.Goals as goal

pub returns-in-Some-compare_parts : goal.returns-in-Some-compare_parts
returns-in-Some-compare_parts c = λ past docs params.
    let ds = c.args.directions.now in
    let xs = c.args.first.now in
    let last = c.in-Some-last.last.now in
    let by = keys_values docs params (keys_of (map order_key_of c.args.order.now)) (tree c.args.one.now ∷ scope_of c.args.frame.now) in
    let n = length xs - 1 in
    let one : Ranked = record { by = by; item = tree c.args.one.now } in
    let found : is_lt (by_keys ds by (ranked_of last).by) ≡ false
    = ap (λ bs. is_lt (by_keys ds by (map item bs))) (sym c.deref.ensures.value) ∙ (sym (ap is_lt (c.in-Some-compare_parts.ensures docs params)) ∙ (sym c.is_lt.ensures ∙ not-true c.is_lt.result past)) in
    let many = length-map xs ranked_of in
    let within = c.in-Some-last.ensures.item in
    let some = within.3.0 in
    let at : get_or (map ranked_of xs) n (ranked_of last) ≡ ranked_of last
    = get_or-map ranked_of xs n last (ranked_of last) (omega (arith, some)) ∙ ap ranked_of (sym within.1) in
    none_of_first ds c.args.limit c.in-Some.limit n (map ranked_of xs) one (ranked_of last) c.in-Some.is c.requires (omega (arith, many, some)) (omega (arith, many, c.if-first-limit.false))
    (ap (λ (y : Ranked). is_lt (by_keys ds by y.by)) at ∙ found)
