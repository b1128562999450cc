use Rattle.std.proofs.Common.{◌≡◌, ◌∷◌, ◌∙◌, List, Bool, length, map, sym, ap, Less, Equal, Greater, arith}
use Rattle.cs_order.proofs.Keys.{decided, or_null}
use Rattle.cs_parts.specs.Parts.{item}
use Rattle.cs_syntax.specs.Expression.{keys_of}
use Rattle.cs_syntax.specs.View.{order_key_of}
use Rattle.cs_view.specs.Scopes.{scope_of}
use Rattle.cs_meaning.specs.Values.{keys_values}
use Rattle.cs_past.proofs.past.compare_in_scope.Goals as goal

pub returns-in-Less : goal.returns-in-Less
returns-in-Less c = λ docs params.
    let l = c.loop-descending in
    let ks = keys_values docs params (keys_of (map order_key_of c.args.order.now)) (scope_of c.args.frame.now) in
    decided l.left.now c.in-Some.later.now c.in-Some.descending.now l.place ks (map item c.args.bound.now) Less _ _ _ c.in-Some.ensures.cases.0 (l.invariant.order docs params)
    (sym c.in-Less.is ∙ c.compare_keys-found.ensures) (c.in_ok-part.ensures docs params)
    (or_null _ (map item c.args.bound.now) l.place c.key_at.ensures)

pub returns-in-Greater : goal.returns-in-Greater
returns-in-Greater c = λ docs params.
    let l = c.loop-descending in
    let ks = keys_values docs params (keys_of (map order_key_of c.args.order.now)) (scope_of c.args.frame.now) in
    decided l.left.now c.in-Some.later.now c.in-Some.descending.now l.place ks (map item c.args.bound.now) Greater _ _ _ c.in-Some.ensures.cases.0 (l.invariant.order docs params)
    (sym c.in-Greater.is ∙ c.compare_keys-found.ensures) (c.in_ok-part.ensures docs params)
    (or_null _ (map item c.args.bound.now) l.place c.key_at.ensures)

pub loop-descending-preserved : goal.loop-descending-preserved
loop-descending-preserved c =
    let l = c.loop-descending in
    let one : length l.left.now ≡ length (c.in-Some.descending.now ∷ c.in-Some.later.now) = ap (λ (bs : List Bool). length bs) c.in-Some.ensures.cases.0 in
    record {
      order = λ docs params.
          let ks = keys_values docs params (keys_of (map order_key_of c.args.order.now)) (scope_of c.args.frame.now) in
          decided l.left.now c.in-Some.later.now c.in-Some.descending.now l.place ks (map item c.args.bound.now) Equal _ _ _ c.in-Some.ensures.cases.0 (l.invariant.order docs params)
          (sym c.in-Equal.is ∙ c.compare_keys-found.ensures) (c.in_ok-part.ensures docs params)
          (or_null _ (map item c.args.bound.now) l.place c.key_at.ensures);
      inside = omega (arith, one, l.invariant.inside);
    }
