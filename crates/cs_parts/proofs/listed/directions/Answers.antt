use Rattle.std.proofs.Common.{List, ◌++◌, Bool, map, sym, ap, ◌∙◌, append_assoc}
use Rattle.cs_syntax.specs.Expression.{keys_of}
use Rattle.cs_syntax.specs.View.{order_key_of}
use Rattle.cs_syntax.specs.declared.tree.OrderKey.{OrderKey}
use Rattle.cs_meaning.specs.Ordered.{directions}
use Rattle.cs_parts.proofs.DescendingKeys.{directions_more}
use Rattle.cs_parts.proofs.listed.directions.Goals as goal

pub loop-first-preserved : goal.loop-first-preserved
loop-first-preserved c =
    let l = c.loop-first in
    let k = c.in-Some.first.now in
    let r = directions (keys_of (map order_key_of c.in-Some.later.now)) in
    ap (λ (xs : List Bool). xs ++ r) c.in_ok-push.ensures
    ∙ (append_assoc l.out.items _ r
    ∙ (ap (λ (xs : List Bool). l.out.items ++ xs) (sym (directions_more k (keys_of (map order_key_of c.in-Some.later.now))))
    ∙ (ap (λ (xs : List OrderKey). l.out.items ++ directions (keys_of (map order_key_of xs))) (sym c.in-Some.ensures.cases.0) ∙ l.invariant)))
