-- A piped call with a key.
use Rattle.std.proofs.Common.{◌≡◌, ℕ, ◌<◌, List, [], ◌∷◌, map, length, refl}
use Rattle.cs_syntax.specs.Expression.{keys_of}
use Rattle.cs_syntax.specs.Faults.{order_faults}
use Rattle.cs_syntax.specs.View.{order_key_of}
use Rattle.cs_syntax.specs.declared.tree.OrderKey.{OrderKey}

pub order_with_key : (name : List ℕ) (ks : List OrderKey) → 0 < length ks →
    order_faults name (keys_of (map order_key_of ks)) ≡ []
order_with_key name [] some = elim some [ ]
order_with_key name (k ∷ ks) some = refl
