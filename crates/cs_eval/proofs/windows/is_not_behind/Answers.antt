use Rattle.std.proofs.Common.{[], ◌∷◌, ◌∙◌, map, ap, not, refl}
use Rattle.cs_value.specs.Tree.{null}
use Rattle.cs_value.specs.View.{tree, fields}
use Rattle.cs_syntax.specs.Expression.{keys_of}
use Rattle.cs_syntax.specs.View.{order_key_of}
use Rattle.cs_view.specs.Scopes.{scope_of}
use Rattle.cs_meaning.specs.Ordered.{Ranked, by_keys}
use Rattle.cs_meaning.specs.Values.{keys_values}
use Rattle.cs_parts.specs.Parts.{item}
use Rattle.cs_eval.proofs.Bounded.{by_bound}
use Rattle.cs_eval.proofs.windows.is_not_behind.Goals as goal

pub returns-in-Some : goal.returns-in-Some
returns-in-Some c =
    let ks = keys_of (map order_key_of c.args.order.now) in let ps = fields c.args.params.now in
    let sc = scope_of c.args.root.now in let d = tree c.args.this.now in
    ap not c.is_gt.ensures
    ∙ by_bound ps ks (map item c.args.bound.now.by.items) d c.args.directions.now sc (keys_values [] ps ks (d ∷ sc)) c.in-Some.found c.requires.directions c.requires.root refl
    (c.in-Some.ensures [] ps ∙ ap (λ xs. by_keys c.args.directions.now (keys_values [] ps ks (d ∷ sc)) (map item xs)) c.deref.ensures.value)

pub returns : goal.returns
returns c =
    let ks = keys_of (map order_key_of c.args.order.now) in
    ap not c.is_above.ensures
    ∙ by_bound (fields c.args.params.now) ks (map item c.args.bound.now.by.items) (tree c.args.this.now) c.args.directions.now (null ∷ []) (map item c.in_ok-one.one.by.items) _ c.requires.directions refl
    (ap (λ (r : Ranked). r.by) c.in_ok-one.ensures) refl
