-- What one mutation does to a dataset: Sanity's HTTP documentation, "Mutations", in this project's
-- profile.
use Rattle.std.specs.Prelude.{ℕ, List, [], ◌∷◌, map, filter, Bool, cond, Option, Some, None, Result, Ok, Err, bytes_eq, codes}
use Rattle.std.specs.List.{list_all, list_any}
use Rattle.cs_value.specs.Tree.{Tree, null, boolean, integer, text, list, object, members, Pairs}
use Rattle.cs_value.specs.Words.{text_at}
use Rattle.cs_view.specs.Document.{id_of, is_body, is_shallow, passes}
use Rattle.cs_view.specs.Dataset.{standing, stands, with_doc, without}
use Rattle.cs_parse.specs.Verdict.{Reading, query, verdict}
use Rattle.cs_meaning.specs.Values.{query_value}
use Rattle.cs_patch.specs.Operations as patch
use Rattle.cs_patch.specs.Patched.{Patch, paths, first_fault, patched}
use Rattle.cs_body.specs.Transaction.{Aim, one, asked, Action, create, replace, if_none, remove, change}
use Rattle.cs_txn.specs.Refused.{Cause, bad_document, deep_document, exists, diff, bad_path, no_query, not_documents, missing, revision, immutable, not_number, overflow, not_array, Outcome}
use Rattle.cs_txn.specs.Install.{with_made_id, entered}

-- the dataset after, or why there is none
abbrev pub Attempt : Type 0
Attempt = Result (List Tree) Cause

-- what is tried on what was reached
abbrev pub and_then : {A B : Type 0} → (A → Result B Cause) → Result A Cause → Result B Cause
and_then f (Ok a) = f a
and_then f (Err cause) = Err cause

-- ---- values that are installed
-- a value is installed where it is a body that is not too deep: `next` is what it then does
abbrev pub installed : (Tree → Attempt) → Tree → Attempt
installed next t =
    cond (is_body t) (cond (is_shallow t) (next t) (Err deep_document)) (Err bad_document)

abbrev pub created : List ℕ → List ℕ → List Tree → Tree → Attempt
created tx moment docs t =
    cond (stands (id_of t) docs)
    (Err (exists (id_of t)))
    (Ok (with_doc (entered tx moment t) docs))

abbrev pub replaced : List ℕ → List ℕ → List Tree → Tree → Attempt
replaced tx moment docs t = Ok (with_doc (entered tx moment t) docs)

abbrev pub kept_or_created : List ℕ → List ℕ → List Tree → Tree → Attempt
kept_or_created tx moment docs t =
    Ok (cond (stands (id_of t) docs) docs (with_doc (entered tx moment t) docs))

-- ---- the documents that a query finds
-- the elements that a value stands for
abbrev pub elements : Tree → List Tree
elements null = []
elements (boolean b) = boolean b ∷ []
elements (integer n) = integer n ∷ []
elements (text s) = text s ∷ []
elements (list ts) = members ts
elements (object ps) = object ps ∷ []

-- the value is an object whose `_id` is the id of a document
abbrev pub names_one : List Tree → Tree → Bool
names_one docs t = passes (λ id. stands id docs) (text_at (codes "_id") t)

abbrev pub names : List ℕ → Tree → Bool
names id t = passes (bytes_eq id) (text_at (codes "_id") t)

-- the ids of the documents that some values name, each once, ascending
abbrev pub named_ids : List Tree → List Tree → List (List ℕ)
named_ids docs ts = map id_of (filter (λ d. list_any (names (id_of d)) ts) docs)

-- each value names a document
abbrev pub ids_of : List Tree → List Tree → Result (List (List ℕ)) Cause
ids_of docs ts = cond (list_all (names_one docs) ts) (Ok (named_ids docs ts)) (Err not_documents)

-- the ids that a query with its parameters finds over the dataset; a text that is no query is
-- refused
abbrev pub found_by : List Tree → Pairs → Reading → Result (List (List ℕ)) Cause
found_by docs params (query e) = ids_of docs (elements (query_value docs params e))
found_by docs params reading = Err (no_query reading)

abbrev pub found : List Tree → List ℕ → Pairs → Result (List (List ℕ)) Cause
found docs s params = found_by docs params (verdict s)

-- ---- deletion
abbrev pub without_all : List (List ℕ) → List Tree → List Tree
without_all [] docs = docs
without_all (id ∷ ids) docs = without_all ids (without id docs)

-- nothing happens where no document has the id
abbrev pub deleted : List Tree → Aim → Attempt
deleted docs (one id) = Ok (without id docs)
deleted docs (asked s params) =
    and_then (λ ids. Ok (without_all ids docs)) (found docs s params)

-- ---- patches
-- of these `bad_path` and `deep_document` say no id
abbrev pub cause_of : List ℕ → patch.Refusal → Cause
cause_of id (patch.revision expected now) = revision id expected now
cause_of id (patch.no_path path place) = bad_path path place
cause_of id (patch.not_number path) = not_number id path
cause_of id (patch.overflow path) = overflow id path
cause_of id (patch.not_array path) = not_array id path
cause_of id (patch.immutable name) = immutable id name
cause_of id patch.too_deep = deep_document

abbrev pub by_outcome : List ℕ → List Tree → patch.Outcome → Attempt
by_outcome id docs (patch.document d) = Ok (with_doc d docs)
by_outcome id docs (patch.refused r) = Err (cause_of id r)

abbrev pub patched_there : Patch → List ℕ → List ℕ → List Tree → List ℕ → Option Tree → Attempt
patched_there p tx moment docs id None = Err (missing id)
patched_there p tx moment docs id (Some d) = by_outcome id docs (patched p d tx moment)

abbrev pub patched_at : Patch → List ℕ → List ℕ → List ℕ → List Tree → Attempt
patched_at p tx moment id docs = patched_there p tx moment docs id (standing id docs)

-- the documents of the ids, one after another
abbrev pub patched_all : Patch → List ℕ → List ℕ → List (List ℕ) → List Tree → Attempt
patched_all p tx moment [] docs = Ok docs
patched_all p tx moment (id ∷ ids) docs =
    and_then (patched_all p tx moment ids) (patched_at p tx moment id docs)

abbrev pub patched_by : Patch → List ℕ → List ℕ → List Tree → Aim → Attempt
patched_by p tx moment docs (one id) = patched_at p tx moment id docs
patched_by p tx moment docs (asked s params) =
    and_then (λ ids. patched_all p tx moment ids docs) (found docs s params)

-- the first text that is no path is told, without an id, before the documents are asked for
abbrev pub by_fault : Attempt → Option patch.Refusal → Attempt
by_fault next None = next
by_fault next (Some r) = Err (cause_of [] r)

abbrev pub edited : List ℕ → List ℕ → List Tree → Aim → Patch → Bool → Attempt
edited tx moment docs aim p has_diff =
    cond has_diff (Err diff)
    (by_fault (patched_by p tx moment docs aim) (first_fault (paths p)))

-- ---- mutations
abbrev pub done : List ℕ → List ℕ → ℕ → List Tree → Action → Attempt
done tx moment index docs (create t) =
    installed (created tx moment docs) (with_made_id tx index t)
done tx moment index docs (replace t) = installed (replaced tx moment docs) t
done tx moment index docs (if_none t) = installed (kept_or_created tx moment docs) t
done tx moment index docs (remove aim) = deleted docs aim
done tx moment index docs (change aim p has_diff) = edited tx moment docs aim p has_diff

abbrev pub at_index : ℕ → Attempt → Outcome
at_index index (Ok docs) = Ok docs
at_index index (Err cause) = Err (record { mutation = Some index; cause = cause })

-- The dataset after the mutation with the index, or its refusal.
abbrev pub mutated : List ℕ → List ℕ → ℕ → List Tree → Action → Outcome
mutated tx moment index docs m = at_index index (done tx moment index docs m)
