use Rattle.std.proofs.Common.{◌≡◌, ◌∙◌, ◌∷◌, [], ap, subst, IfOk, Bool, List, map}
use Rattle.std.specs.Prelude.{filter}
use Rattle.cs_value.specs.Words.{list_of}
use Rattle.cs_value.specs.Tree.{Tree}
use Rattle.cs_value.specs.View.{tree, fields}
use Rattle.cs_syntax.specs.Expression.{keys_of}
use Rattle.cs_syntax.specs.View.{expression, order_key_of}
use Rattle.cs_view.specs.Scopes.{scope_of}
use Rattle.cs_meaning.specs.Operators.{is_true}
use Rattle.cs_meaning.specs.Ordered.{Ranked, directions, ranked}
use Rattle.cs_meaning.specs.Values.{value, keys_values}
use Rattle.cs_order.specs.First.{all_kept, in_order}
use Rattle.cs_order.specs.Ranked.{ranked as ranked_of}
use Rattle.cs_order.proofs.Kept.{first_in_order}
use Rattle.cs_parts.specs.Parts.{got}
use Rattle.cs_eval.proofs.ordered.hits_in_order.Goals as goal

pub returns : goal.returns
returns c =
    let ps = fields c.args.params.now in
    let sc = scope_of c.args.frame.now in
    let ks = keys_of (map order_key_of c.args.order.now) in
    let limit = c.args.limit in
    let hits : List Tree = filter (λ x. is_true (value [] ps (expression c.args.condition.now) (x ∷ sc))) (map (λ r. tree r.now) c.args.docs.items) in
    let rs : List Ranked = map (ranked (λ x. keys_values [] ps ks (x ∷ sc))) hits in
    let listed : List Ranked → Tree = λ us. list_of (map (λ (x : Ranked). x.item) us) in
    let kept : List Ranked = map ranked_of c.in_ok-ranked.ranked.items in
    subst (λ (y : Tree). IfOk c.list_in_order.result (λ g. got g ≡ y))
    (ap (λ (ds : List Bool). listed (in_order ds limit kept)) (c.deref-2.ensures.value ∙ c.in_ok-directions.ensures)
    ∙ ap (λ (us : List Ranked). listed (in_order (directions ks) limit us))
    (c.in_ok-ranked.ensures ∙ ap (λ (ds : List Bool). all_kept ds limit [] rs) (c.deref.ensures.value ∙ c.in_ok-directions.ensures))
    ∙ ap listed (first_in_order (directions ks) limit rs))
    c.list_in_order.ensures
