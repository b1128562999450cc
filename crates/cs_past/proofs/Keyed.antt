-- The keys of an order at their places, and elements that are none of the first.
use Rattle.std.proofs.Common.{◌≡◌, ◌∙◌, ℕ, zero, suc, ◌<◌, List, [], ◌∷◌, map, length, get_or, sym, ap, subst, Bool, false, ◌+◌, ◌≤◌, is_lt, Option, Some, arith}
use Rattle.cs_value.specs.Tree.{Tree, null, Pairs}
use Rattle.cs_syntax.specs.Expression.{OrderKeys, more_keys, keys_of}
use Rattle.cs_syntax.specs.View.{expression, order_key_of}
use Rattle.cs_syntax.specs.declared.tree.OrderKey.{OrderKey}
use Rattle.cs_syntax.proofs.Views.{key_seen}
use Rattle.cs_meaning.specs.Values.{value, keys_values}
use Rattle.cs_meaning.specs.Ordered.{Ranked, by_keys}
use Rattle.cs_order.specs.First.{CanKeep, kept}
use Rattle.cs_order.proofs.Placed.{past_last}

pub keys_values_more : (docs : List Tree) (params : Pairs) (k : OrderKey) (ks : OrderKeys) (scope : List Tree) → keys_values docs params (more_keys (order_key_of k) ks) scope ≡ value docs params (expression k.key) scope ∷ keys_values docs params ks scope
keys_values_more docs params k ks scope = ap (λ x. keys_values docs params (more_keys x ks) scope) (key_seen k)

-- the value of the key at a place
pub key_at : (docs : List Tree) (params : Pairs) (os : List OrderKey) (scope : List Tree) (i : ℕ) (d : OrderKey) → i < length os
    → value docs params (expression (get_or os i d).key) scope ≡ get_or (keys_values docs params (keys_of (map order_key_of os)) scope) i null
key_at docs params [] scope i d h = absurd (omega arith)
key_at docs params (o ∷ os) scope zero d h = sym (ap (λ vs. get_or vs 0 null) (keys_values_more docs params o (keys_of (map order_key_of os)) scope))
key_at docs params (o ∷ os) scope (suc i) d h =
    key_at docs params os scope i d (omega arith)
    ∙ sym (ap (λ vs. get_or vs (suc i) null) (keys_values_more docs params o (keys_of (map order_key_of os)) scope))

-- with all places taken, an element that does not stand before the last changes nothing
pub none_of_first : (ds : List Bool) (limit : Option ℕ) (k n : ℕ) (xs : List Ranked) (one last : Ranked) → limit ≡ Some k → CanKeep ds limit xs → n + 1 ≡ length xs → k ≤ length xs
    → is_lt (by_keys ds one.by (get_or xs n last).by) ≡ false → kept ds limit one xs ≡ xs
none_of_first ds limit k n xs one last is can long full h =
    ap (λ (o : Option ℕ). kept ds o one xs) is
    ∙ past_last ds k n xs one last (subst (λ (o : Option ℕ). CanKeep ds o xs) is can) long full h
