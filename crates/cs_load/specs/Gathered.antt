-- The documents that were read of a data file so far: in the order in which they came while that is
-- the order of their ids, and else in a map by them. For private clauses.
use Rattle.std.specs.Prelude.{◌≡◌, ◌≤◌, ℕ, zero, suc, List, [], ◌∷◌, length, map, true, ⊤}
use Rattle.std.specs.declared.cmp.Ordering.TheVariants.{Less, Greater}
use Rattle.cs_value.specs.Tree.{Tree}
use Rattle.cs_docs.specs.Limits.{most_documents}
use Rattle.cs_view.specs.Dataset.{id_cmp, ascending}
use Rattle.cs_view.specs.Document.{id_of}
use Rattle.cs_view.specs.View.{document_of}
use Rattle.cs_view.specs.declared.doc.Doc.{Doc}
use Rattle.cs_load.specs.declared.loading.collected.Collected.{Collected}
use Rattle.cs_load.specs.declared.loading.collected.Collected.TheVariants.{InOrder, ById}

-- the ids before the place are below the id, and those from there on are above
abbrev pub IsGapFor : List ℕ → List Tree → ℕ → Type 0
IsGapFor id [] zero = ⊤
IsGapFor id [] (suc place) = ⊥
IsGapFor id (d ∷ docs) zero = (id_cmp id (id_of d) ≡ Less) × IsGapFor id docs zero
IsGapFor id (d ∷ docs) (suc place) = (id_cmp id (id_of d) ≡ Greater) × IsGapFor id docs place

-- the documents, in the order of the map
abbrev pub gathered : List (List ℕ × Doc) → List Tree
gathered es = map (λ e. document_of e.1) es

-- each document stands at its id
abbrev pub AreById : List (List ℕ × Doc) → Type 0
AreById es = map (λ e. e.0) es ≡ map (λ e. id_of (document_of e.1)) es

abbrev pub held : Collected → List Tree
held (InOrder documents) = map document_of documents.items
held (ById documents) = gathered documents.entries

-- the names in a map, and the ids of the documents there
abbrev pub names : Collected → List (List ℕ)
names (InOrder documents) = []
names (ById documents) = map (λ e. e.0) documents.entries

abbrev pub ids : Collected → List (List ℕ)
ids (InOrder documents) = []
ids (ById documents) = map (λ e. id_of (document_of e.1)) documents.entries

abbrev pub IsKept : Collected → Type 0
IsKept c = (names c ≡ ids c) × (ascending (held c) ≡ true) × (length (held c) ≤ most_documents)

-- a document with the id goes last, or into the map
abbrev pub HasWay : List ℕ → Collected → Type 0
HasWay id (InOrder documents) = IsGapFor id (map document_of documents.items)
    (length documents.items)
HasWay id (ById documents) = ⊤
