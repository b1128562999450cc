-- What contracts see of the keys of an answer.
use Rattle.std.specs.Prelude.{◌++◌, List, Contains, map}
use Rattle.cs_view.specs.declared.key.Key.{Key}
use Rattle.cs_view.specs.declared.key.Key.TheVariants.{Id}
use Rattle.cs_keys.specs.declared.keys.Keys.{Keys}

-- the ids among them, each once
abbrev pub ids_of : Keys → List Key
ids_of k = map (λ p. Id p.0) k.ids

-- the ids, and the others; where the query is windowed, without its own key
abbrev pub rest_of : Keys → List Key
rest_of k = ids_of k ++ k.others

-- the own key of a windowed query
abbrev pub own_of : Keys → List Key
own_of k = k.own

-- all of them
abbrev pub all_keys : Keys → List Key
all_keys k = rest_of k ++ own_of k

-- the same keys, order and repeats aside
pub record SameKeys (one other : List Key) : Type 0 where
  pub there : (k : Key) → Contains one k → Contains other k
  pub back : (k : Key) → Contains other k → Contains one k
