-- Documents put at places one after the other, each one's id listed with its place. For private
-- clauses.
use Rattle.std.specs.Prelude.{◌≡◌, ◌<◌, ℕ, List, [], ◌∷◌, ◌++◌, Option, Some, None, option_map, nat_eq, cond}
use Rattle.std.specs.BTreeMap.{is_at}
use Rattle.std.specs.Map.{lookup, update_all}
use Rattle.cs_value.specs.Tree.{Tree}
use Rattle.cs_view.specs.Document.{id_of}
use Rattle.cs_view.specs.Dataset.{id_cmp, same_id, standing}
use Rattle.cs_shelf.specs.Places.{Store, tree_at, found, most_places}

-- ids with their places
abbrev pub Places : Type 0
Places = List (List ℕ × ℕ)

-- the place that an id has in a list
abbrev pub listed_at : Places → List ℕ → Option ℕ
listed_at es x = lookup (is_at (id_cmp x)) es

-- a document was put at a low place where none stood, and its id was listed last, with the place
pub record IsPutNext (before after : Store) (listed more : Places) (document : Tree) : Type 0 where
  pub place : ℕ
  pub vacant : tree_at before place ≡ None
  pub low : place < most_places
  pub filled : (p : ℕ) → tree_at after p ≡ cond (nat_eq p place) (Some document) (tree_at before p)
  pub last : more ≡ listed ++ (id_of document, place) ∷ []

-- the documents stand at low places, and those are listed with their ids, each id once
pub record AreListed (store : Store) (listed : Places) (docs : List Tree) : Type 0 where
  pub sound : (x : List ℕ) (p : ℕ) → listed_at listed x ≡ Some p
      → option_map id_of (tree_at store p) ≡ Some x
  pub entered : (p : ℕ) (t : Tree) → tree_at store p ≡ Some t → listed_at listed (id_of t) ≡ Some p
  pub low : (x : List ℕ) (p : ℕ) → listed_at listed x ≡ Some p → p < most_places
  pub once : (x : List ℕ) → update_all same_id (λ _. None) listed x ≡ listed_at listed x
  pub these : (x : List ℕ) → found store (listed_at listed x) ≡ standing x docs
