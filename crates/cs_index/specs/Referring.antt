-- The least id of a document that refers to a target, among the documents at some places. For
-- private clauses.
use Rattle.std.specs.Prelude.{ℕ, List, [], ◌∷◌, Bool, true, ◌&&◌, Option, Some, None}
use Rattle.std.specs.Ordering.{is_lt}
use Rattle.cs_value.specs.Tree.{Tree}
use Rattle.cs_view.specs.Document.{id_of}
use Rattle.cs_view.specs.Dataset.{id_cmp, kept_if}
use Rattle.cs_view.specs.Keys.{has_ref}
use Rattle.cs_shelf.specs.Referring.{above}
use Rattle.cs_docs.specs.Store.{doc_at}
use Rattle.cs_docs.specs.Suspects.{lesser}
use Rattle.cs_docs.specs.declared.docs.Docs.{Docs}
use Rattle.cs_index.specs.declared.entry.Entry.{Entry}

-- a document above an id, where one is given, that refers to the target
abbrev pub refers : List ℕ → Option (List ℕ) → Tree → Bool
refers target low d = has_ref target d && above low (id_of d)

-- the document at a place, where it refers to the target
abbrev pub referrer_at : Docs → List ℕ → Option (List ℕ) → ℕ → Option Tree
referrer_at d target low p = kept_if (refers target low) (doc_at d p)

-- the id is below that of a document, where one is given
abbrev pub is_below : List ℕ → Option Tree → Bool
is_below id None = true
is_below id (Some u) = is_lt (id_cmp id (id_of u))

-- the least of one, where it is given, and of those at the places of some entries
abbrev pub least : Docs → List ℕ → Option (List ℕ) → List Entry → Option Tree → Option Tree
least d target low [] o = o
least d target low (e ∷ es) o =
    least d target low es (lesser o (referrer_at d target low e.place))
