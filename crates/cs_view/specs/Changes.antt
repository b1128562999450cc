-- Changes of a dataset: this project's profile.
use Rattle.std.specs.Prelude.{◌≡◌, ◌≢◌, ℕ, List, [], ◌∷◌, map, filter, Bool, true, false, not, ◌&&◌, Option, Some, None}
use Rattle.std.specs.List.{list_all, AllByRecursion}
use Rattle.std.specs.FinMap.Entries.{find, is_sorted}
use Rattle.cs_value.specs.Tree.{Tree}
use Rattle.cs_value.specs.Same.{same_tree}
use Rattle.cs_view.specs.Document.{id_of, is_document}
use Rattle.cs_view.specs.Dataset.{id_cmp, same_id, standing, with_doc, placed, kept_if}

-- a change: an id, what stands under it before, and what stands there after
abbrev pub Edit : Type 0
Edit = List ℕ × (Option Tree × Option Tree)

abbrev pub ids_ascend : List Edit → Bool
ids_ascend cs = is_sorted id_cmp cs

-- the document, where there is one, is of the id
abbrev pub is_of_id : List ℕ → Option Tree → Bool
is_of_id id None = true
is_of_id id (Some d) = same_id id (id_of d)

-- the ids ascend strictly, and each document in a change has the change's id
abbrev pub are_changes : List Edit → Bool
are_changes cs = ids_ascend cs && list_all (λ c. is_of_id c.0 c.1.0 && is_of_id c.0 c.1.1) cs

-- what stands there, where something does, is a document
abbrev pub is_document_or_none : Option Tree → Bool
is_document_or_none None = true
is_document_or_none (Some d) = is_document d

-- what stands in the changes are documents
abbrev pub are_documents : List Edit → Bool
are_documents cs = list_all (λ c. is_document_or_none c.1.0 && is_document_or_none c.1.1) cs

-- each `before` is what the dataset holds under that id
abbrev pub LeadFrom : List Tree → List Edit → Type 0
LeadFrom docs cs = AllByRecursion (λ c. c.1.0 ≡ standing c.0 docs) cs

-- each `after` is what the dataset holds under that id
abbrev pub LeadTo : List Tree → List Edit → Type 0
LeadTo docs cs = AllByRecursion (λ c. c.1.1 ≡ standing c.0 docs) cs

-- the dataset with each change's `before` in the place of its id
abbrev pub before_changes : List Tree → List Edit → List Tree
before_changes docs [] = docs
before_changes docs (c ∷ cs) = placed c.0 c.1.0 (before_changes docs cs)

-- the dataset with each change's `after` in the place of its id
abbrev pub after_changes : List Tree → List Edit → List Tree
after_changes docs [] = docs
after_changes docs (c ∷ cs) = placed c.0 c.1.1 (after_changes docs cs)

-- what stands under an id before, or after, changes that hold these sides of the id, or do not
-- speak of it
abbrev pub before_of : Option (Option Tree × Option Tree) → Option Tree → Option Tree
before_of None now = now
before_of (Some sides) now = sides.0

abbrev pub after_of : Option (Option Tree × Option Tree) → Option Tree → Option Tree
after_of None now = now
after_of (Some sides) now = sides.1

-- what the changes say of an id, where one document, or none, stands there before and another
-- after:
-- nothing where the two are one
abbrev pub IsChangeAt : Option Tree → Option Tree → Option (Option Tree × Option Tree) → Type 0
IsChangeAt before after None = before ≡ after
IsChangeAt before after (Some sides) = (before ≢ after) × (sides ≡ (before, after))

-- the changes from one dataset to another: by ascending id, each id at which the two differ, with
-- what stands there in both
abbrev pub AreChangesBetween : List Tree → List Tree → List Edit → Type 0
AreChangesBetween one other cs =
    (ids_ascend cs ≡ true)
    × ((id : List ℕ) → IsChangeAt (standing id one) (standing id other) (find id_cmp id cs))

-- the one document stands on both sides, or none on either
abbrev pub is_same_side : Option Tree → Option Tree → Bool
is_same_side None None = true
is_same_side (Some d) (Some e) = same_tree d e
is_same_side a b = false

-- the two datasets hold not the same under the id
abbrev pub differ_at : List Tree → List Tree → List ℕ → Bool
differ_at one other id = not (is_same_side (standing id one) (standing id other))

-- documents with each id that one of the two datasets has, and with no other
abbrev pub united : List Tree → List Tree → List Tree
united [] other = other
united (d ∷ ds) other = with_doc d (united ds other)

-- the one list of the changes from one dataset to another
abbrev pub changes_between : List Tree → List Tree → List Edit
changes_between one other =
    map (λ d. (id_of d, (standing (id_of d) one, standing (id_of d) other)))
    (filter (λ d. differ_at one other (id_of d)) (united one other))

-- the changes of those documents that pass a test
abbrev pub changes_where : (Tree → Bool) → List Edit → List Edit
changes_where p cs = map (λ c. (c.0, (kept_if p c.1.0, kept_if p c.1.1))) cs
