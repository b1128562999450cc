use Rattle.std.proofs.Common.{◌∷◌, [], ◌∙◌, ap, List, Bool, Some, map}
use Rattle.cs_value.specs.Tree.{Tree}
use Rattle.cs_value.specs.View.{fields}
use Rattle.cs_syntax.specs.Expression.{keys_of}
use Rattle.cs_syntax.specs.View.{order_key_of}
use Rattle.cs_view.specs.Scopes.{scope_of}
use Rattle.cs_view.specs.View.{document_of}
use Rattle.cs_meaning.specs.Ordered.{Ranked, directions, ranked}
use Rattle.cs_meaning.specs.Values.{keys_values}
use Rattle.cs_order.specs.First.{all_kept}
use Rattle.cs_order.proofs.Kept.{first_in_order}
use Rattle.cs_parts.specs.Parts.{item}
use Rattle.cs_window.specs.Window.{order_keys}
use Rattle.cs_eval.proofs.Bounded.{if_ok_then}
use Rattle.cs_eval.proofs.windows.first_ranked.Goals as goal

pub returns : goal.returns
returns c =
    let ks = keys_of (map order_key_of c.args.order.now) in let ps = fields c.args.params.now in
    let limit = c.args.limit in
    let all : List Tree → List Bool → List Tree → List Ranked = λ sc ds ts. all_kept ds (Some limit) [] (map (ranked (λ x. keys_values [] ps ks (x ∷ sc))) ts) in
    if_ok_then c.rank_each.result
    (λ v h. h
    ∙ ap (λ (ds : List Bool). all (scope_of c.args.root.now) ds (map item c.in_ok-items.items.items)) (c.deref.ensures.value ∙ c.in_ok-directions.ensures)
    ∙ ap (all (scope_of c.args.root.now) (directions ks)) c.in_ok-items.ensures
    ∙ ap (λ (sc : List Tree). all sc (directions ks) (map document_of c.args.docs.now)) c.requires
    ∙ first_in_order (directions ks) (Some limit) (map (ranked (order_keys ks ps)) (map document_of c.args.docs.now)))
    c.rank_each.ensures.value
