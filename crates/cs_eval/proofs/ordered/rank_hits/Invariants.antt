use Rattle.std.proofs.Common.{◌≡◌, ◌∷◌, [], map}
use Rattle.std.specs.Prelude.{filter}
use Rattle.std.specs.Vec.Iter.{into_iter_items}
use Rattle.cs_value.specs.View.{tree, fields}
use Rattle.cs_syntax.specs.Expression.{keys_of}
use Rattle.cs_syntax.specs.View.{expression, order_key_of}
use Rattle.cs_view.specs.Scopes.{scope_of}
use Rattle.cs_meaning.specs.Operators.{is_true}
use Rattle.cs_meaning.specs.Ordered.{ranked}
use Rattle.cs_meaning.specs.Values.{value, keys_values}
use Rattle.cs_order.specs.First.{CanKeep, all_kept}
use Rattle.cs_order.specs.Ranked.{ranked as ranked_of}
use Rattle.cs_eval.proofs.ordered.rank_hits.Given as goal

abbrev pub invariant-loop-doc : goal.invariant-loop-doc
invariant-loop-doc l =
    (all_kept l.directions l.limit (map ranked_of l.kept.items)
    (map (ranked (λ x. keys_values [] (fields l.params) (keys_of (map order_key_of l.order)) (x ∷ scope_of l.frame)))
    (filter (λ x. is_true (value [] (fields l.params) (expression l.condition) (x ∷ scope_of l.frame)))
    (map (λ r. tree r.now) (into_iter_items l.doc-iterator))))
    ≡ all_kept l.directions l.limit []
    (map (ranked (λ x. keys_values [] (fields l.params) (keys_of (map order_key_of l.order)) (x ∷ scope_of l.frame)))
    (filter (λ x. is_true (value [] (fields l.params) (expression l.condition) (x ∷ scope_of l.frame)))
    (map (λ r. tree r.now) l.fn.docs.items))))
    × CanKeep l.directions l.limit (map ranked_of l.kept.items)
