-- The directions of an order, key by key.
use Rattle.std.proofs.Common.{◌≡◌, ◌∷◌, ap}
use Rattle.cs_syntax.specs.Expression.{OrderKeys, more_keys}
use Rattle.cs_syntax.specs.View.{order_key_of}
use Rattle.cs_syntax.specs.declared.tree.OrderKey.{OrderKey}
use Rattle.cs_syntax.proofs.Views.{key_seen}
use Rattle.cs_meaning.specs.Ordered.{directions}

pub directions_more : (k : OrderKey) (ks : OrderKeys)
    → directions (more_keys (order_key_of k) ks) ≡ k.desc ∷ directions ks
directions_more k ks = ap (λ x. directions (more_keys x ks)) (key_seen k)
