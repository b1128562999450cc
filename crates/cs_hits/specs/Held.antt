-- The place of a document among documents that are held by ascending id, and what is held for one
-- put there or taken out.
use Rattle.std.specs.Prelude.{◌≡◌, ◌<◌, ◌≤◌, ◌⊎◌, ℕ, List, length, set, insert, remove, Result, Ok, Err}
use Rattle.cs_value.specs.Tree.{Tree}
use Rattle.cs_view.specs.Dataset.{with_doc, without}
use Rattle.cs_view.specs.Document.{id_of}

-- a document of the id stands at this place among the documents
pub record IsHeldAt (id : List ℕ) (docs : List Tree) (i : ℕ) : Type 0 where
  pub within : i < length docs
  pub put : (d : Tree) → id_of d ≡ id → with_doc d docs ≡ set docs i d
  pub left : without id docs ≡ remove docs i

-- no document of the id stands, and one would come to this place
pub record IsGapAt (id : List ℕ) (docs : List Tree) (i : ℕ) : Type 0 where
  pub within : i ≤ length docs
  pub put : (d : Tree) → id_of d ≡ id → with_doc d docs ≡ insert docs i d
  pub left : without id docs ≡ docs

-- the place of the id among documents
abbrev pub IsPlaceOf : List ℕ → List Tree → Result ℕ ℕ → Type 0
IsPlaceOf id docs (Ok i) = IsHeldAt id docs i
IsPlaceOf id docs (Err i) = IsGapAt id docs i

-- the one was put in the place of another, or between others
abbrev pub IsPut : {T : Type 0} → T → List T → List T → Type 0
IsPut one old new = (i : ℕ) × ((new ≡ set old i one) ⊎ (new ≡ insert old i one))

-- one was taken out, or none
abbrev pub IsTaken : {T : Type 0} → List T → List T → Type 0
IsTaken old new = (i : ℕ) × ((new ≡ remove old i) ⊎ (new ≡ old))
