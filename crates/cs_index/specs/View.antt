-- What contracts see of a store with its index: the store.
use Rattle.std.specs.Prelude.{ℕ, List, Option}
use Rattle.cs_value.specs.Tree.{Tree}
use Rattle.cs_docs.specs.Store as store
use Rattle.cs_docs.specs.declared.docs.Docs.{Docs}
use Rattle.cs_index.specs.declared.indexed.Indexed.{Indexed}

abbrev pub store_of : Indexed → Docs
store_of v = v.docs.now

-- its dataset
abbrev pub indexed : Indexed → List Tree
indexed v = store.docs (store_of v)

-- the document at a place of it
abbrev pub doc_at : Indexed → ℕ → Option Tree
doc_at v p = store.doc_at (store_of v) p
