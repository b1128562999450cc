-- What contracts see of the store, and of changes that are prepared for it.
use Rattle.std.specs.Prelude.{◌≡◌, ℕ, List, Option, true}
use Rattle.cs_value.specs.Tree.{Tree}
use Rattle.cs_view.specs.Changes.{Edit, after_changes, are_changes}
use Rattle.cs_view.specs.View.{edits}
use Rattle.cs_view.specs.declared.change.Change.{Change}
use Rattle.cs_shelf.specs.View as shelf
use Rattle.cs_docs.specs.declared.docs.Docs.{Docs}
use Rattle.cs_docs.specs.declared.prepared.Prepared.{Prepared}

-- the dataset of a store
abbrev pub docs : Docs → List Tree
docs d = shelf.documents d.shelf

-- the document at a place of it
abbrev pub doc_at : Docs → ℕ → Option Tree
doc_at d place = shelf.doc_at d.shelf place

-- the dataset after changes
abbrev pub after : Docs → List Change → List Tree
after d cs = after_changes (docs d) (edits cs)

-- the condition on the changes of a call
abbrev pub AreChanges : List Change → Type 0
AreChanges cs = are_changes (edits cs) ≡ true

-- the changes themselves
abbrev pub prepared : Prepared → List Edit
prepared p = edits p.changes.items

-- the place of an id
abbrev pub place_at : Docs → List ℕ → Option ℕ
place_at d x = shelf.place_at d.shelf x

-- what stands in both stands in both at the same place
abbrev pub ArePlacesSteady : Docs → Docs → Type 0
ArePlacesSteady d e = shelf.AreSteady d.shelf e.shelf
