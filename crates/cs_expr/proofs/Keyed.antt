-- The keys of an order that look nothing up.
use Rattle.std.proofs.Common.{◌≡◌, List, [], ◌++◌, refl, ap, ◌∙◌, true}
use Rattle.cs_value.specs.Tree.{Tree, Pairs}
use Rattle.cs_syntax.specs.Expression.{OrderKeys, no_keys, more_keys, order_key}
use Rattle.cs_view.specs.declared.key.Key.{Key}
use Rattle.cs_view.proofs.Booleans.{and-left, and-right}
use Rattle.cs_plan.specs.Simple.{is_quiet, quiet_keys}
use Rattle.cs_meaning.specs.Laws.{QuietAsksNothing}
use Rattle.cs_meaning.specs.Looked.{keys_looked}

-- keys that are quiet look nothing up
pub keys_quiet : QuietAsksNothing → (docs : List Tree) (params : Pairs) (ks : OrderKeys) (scope : List Tree) → quiet_keys ks ≡ true → keys_looked docs params ks scope ≡ []
keys_quiet law docs params no_keys scope q = refl
keys_quiet law docs params (more_keys (order_key e descending) ks) scope q =
    ap (λ (xs : List Key). xs ++ keys_looked docs params ks scope) ((law e params scope docs docs (and-left (is_quiet e) (quiet_keys ks) q)).0)
    ∙ keys_quiet law docs params ks scope (and-right (is_quiet e) (quiet_keys ks) q)
