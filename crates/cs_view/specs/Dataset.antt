-- Datasets: lists of documents with strictly ascending ids. GROQ-1.revision1, "Dataset", leaves the
-- order open; this project's profile takes that of the ids' bytes.
use Rattle.std.specs.Prelude.{ℕ, List, [], ◌∷◌, map, Bool, not, ◌&&◌, cond, is_some, Option, None, Some, filter}
use Rattle.std.specs.List.{list_all}
use Rattle.std.specs.Ordering.{nat_cmp, eq_by_cmp}
use Rattle.std.specs.Cmp.Lexicographic.{slice_cmp}
use Rattle.std.specs.declared.cmp.Ordering.{Ordering}
use Rattle.std.specs.FinMap.Entries.{by_order, find, is_sorted}
use Rattle.cs_value.specs.Tree.{Tree}
use Rattle.cs_view.specs.Document.{is_document, id_of}

-- ids are ordered by their bytes
abbrev pub id_cmp : List ℕ → List ℕ → Ordering
id_cmp = slice_cmp nat_cmp

abbrev pub same_id : List ℕ → List ℕ → Bool
same_id = eq_by_cmp id_cmp

-- each document beside its id
abbrev pub keyed : List Tree → List (List ℕ × Tree)
keyed docs = map (λ d. (id_of d, d)) docs

-- the document with the id
abbrev pub standing : List ℕ → List Tree → Option Tree
standing id docs = find id_cmp id (keyed docs)

abbrev pub stands : List ℕ → List Tree → Bool
stands id docs = is_some (standing id docs)

-- the ids ascend strictly
abbrev pub ascending : List Tree → Bool
ascending docs = is_sorted id_cmp (keyed docs)

abbrev pub is_dataset : List Tree → Bool
is_dataset docs = ascending docs && list_all is_document docs

-- the dataset with the document in the place of its id
abbrev pub with_doc : Tree → List Tree → List Tree
with_doc d [] = d ∷ []
with_doc d (e ∷ es) =
    by_order (id_cmp (id_of d) (id_of e)) (d ∷ e ∷ es) (d ∷ es) (e ∷ with_doc d es)

-- the dataset without the document of the id
abbrev pub without : List ℕ → List Tree → List Tree
without id docs = filter (λ d. not (same_id id (id_of d))) docs

-- the dataset with this document, or none, in the place of the id
abbrev pub placed : List ℕ → Option Tree → List Tree → List Tree
placed id None docs = without id docs
placed id (Some d) docs = with_doc d docs

-- what stands there, where it passes the test
abbrev pub kept_if : (Tree → Bool) → Option Tree → Option Tree
kept_if p None = None
kept_if p (Some d) = cond (p d) (Some d) None
