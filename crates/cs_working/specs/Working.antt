-- What contracts see of a working dataset: a store's dataset with the changes so far.
use Rattle.std.specs.Prelude.{ℕ, ◌-◌, List, map, cond, nat_lt, Option}
use Rattle.cs_value.specs.Tree.{Tree}
use Rattle.cs_view.specs.Dataset.{standing}
use Rattle.cs_view.specs.Changes.{Edit, after_changes}
use Rattle.cs_shelf.specs.Places.{most_places}
use Rattle.cs_shelf.specs.View as shelf
use Rattle.cs_index.specs.View as store
use Rattle.cs_working.specs.declared.working.Working.{Working}

-- the changes from one dataset to what another holds under these ids
abbrev pub worked : List Tree → List Tree → List (List ℕ) → List Edit
worked docs put ids = map (λ x. (x, (standing x docs, standing x put))) ids

-- the dataset of the store
abbrev pub base : Working → List Tree
base w = store.indexed w.store

abbrev pub working : Working → List Tree
working w = after_changes (base w) (worked (base w) (shelf.documents w.put) w.touched.keys)

-- the document at a place of it: places of what is put stand behind those of the store
abbrev pub doc_at : Working → ℕ → Option Tree
doc_at w p =
    cond (nat_lt p most_places)
    (store.doc_at w.store p)
    (shelf.doc_at w.put (p - most_places))
