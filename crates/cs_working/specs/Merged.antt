-- Two lists of places, each in the order of its documents' ids, made one. For private clauses.
use Rattle.std.specs.Prelude.{ℕ, ◌+◌, ◌<◌, List, [], ◌∷◌, ◌++◌, map, cond, nat_lt, Option, Some, None, IsSome}
use Rattle.std.specs.BTreeSet.{contains}
use Rattle.std.specs.List.{AllByRecursion}
use Rattle.std.specs.Ordering.{is_lt}
use Rattle.cs_value.specs.Tree.{Tree}
use Rattle.cs_view.specs.Document.{id_of}
use Rattle.cs_view.specs.Dataset.{id_cmp}
use Rattle.cs_shelf.specs.Places.{or_null, most_places}
use Rattle.cs_shelf.specs.View.{doc_at as put_at}
use Rattle.cs_docs.specs.Store.{place_at}
use Rattle.cs_index.specs.View.{store_of, doc_at as store_at}
use Rattle.cs_working.specs.declared.working.Working.{Working}

-- what stands at a place
abbrev pub Stand : Type 0
Stand = ℕ → Option Tree

-- the id of the document at a place
abbrev pub id_at : Stand → ℕ → List ℕ
id_at at p = id_of (or_null (at p))

-- places of what is put stand behind those of the store
abbrev pub behind : ℕ → ℕ
behind p = most_places + p

-- a document stands at each place, and the places are low
abbrev pub ArePlaces : Stand → List ℕ → Type 0
ArePlaces at ps = AllByRecursion (λ p. IsSome (at p) × (p < most_places)) ps

-- the first places, as far as their ids are below this one
abbrev pub lower : Stand → List ℕ → List ℕ → List ℕ
lower at id [] = []
lower at id (p ∷ ps) = cond (is_lt (id_cmp (id_at at p) id)) (p ∷ lower at id ps) []

-- the places after them
abbrev pub upper : Stand → List ℕ → List ℕ → List ℕ
upper at id [] = []
upper at id (p ∷ ps) = cond (is_lt (id_cmp (id_at at p) id)) (upper at id ps) (p ∷ ps)

-- the other place, where it is given
abbrev pub place_or : ℕ → Option ℕ → ℕ
place_or p None = p
place_or p (Some q) = q

-- a low place of what the store holds under the id and at the place: the place itself, if it is low
abbrev pub low_place : Working → ℕ → List ℕ → ℕ
low_place w p id =
    cond (nat_lt p most_places) p (place_or p (place_at (store_of w.store) id))

-- places of the store, less those of touched ids, and among them those of what is put
abbrev pub merged : Working → List ℕ → List ℕ → List ℕ
merged w [] ps = map behind ps
merged w (s ∷ ss) ps =
    let id = id_at (store_at w.store) s in
    cond (contains id_cmp w.touched id)
    (merged w ss ps)
    (map behind (lower (put_at w.put) id ps)
    ++ low_place w s id ∷ merged w ss (upper (put_at w.put) id ps))
