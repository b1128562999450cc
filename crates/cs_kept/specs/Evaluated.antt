-- What it is that a query was evaluated. For private clauses.
use Rattle.std.specs.Prelude.{◌≡◌, ℕ, List}
use Rattle.cs_value.specs.Tree.{Tree, Pairs}
use Rattle.cs_value.specs.View.{tree}
use Rattle.cs_syntax.specs.Expression.{Expression}
use Rattle.cs_meaning.specs.Looked.{query_looked}
use Rattle.cs_meaning.specs.Values.{query_value}
use Rattle.cs_codes.specs.Codes.{is_among}
use Rattle.cs_codes.specs.declared.seed.Seed.{Seed}
use Rattle.cs_hits.specs.Codes.{has_code}
use Rattle.cs_keys.specs.Keys.{SameKeys, all_keys}
use Rattle.cs_kept.specs.declared.evaluated.Evaluated.{Evaluated}

-- the answer is the value over the dataset, the keys are those that finding it looks up, and no
-- other, and so are their codes
pub record IsEvaluated (docs : List Tree) (e : Expression) (params : Pairs) (seed : Seed)
    (v : Evaluated) : Type 0 where
  pub answer : tree v.answer ≡ query_value docs params e
  pub keys : SameKeys (all_keys v.keys) (query_looked docs params e)
  pub coded : (c : ℕ) → is_among c v.keys.codes.items ≡ has_code seed c (all_keys v.keys)
