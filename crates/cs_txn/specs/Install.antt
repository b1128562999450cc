-- The document that a mutation installs: Sanity's HTTP documentation, "Mutations", on the
-- attributes that the store sets itself.
use Rattle.std.specs.Prelude.{ℕ, List, ◌++◌, cond, is_some, codes}
use Rattle.std.specs.Fmt.{decimal}
use Rattle.cs_value.specs.Tree.{Tree, null, boolean, integer, text, list, object}
use Rattle.cs_value.specs.Pairs.{put, attribute}
use Rattle.cs_view.specs.Document.{has_text}
use Rattle.cs_patch.specs.Patched.{stamped}

-- the value with a text under a name: itself where it is no object
abbrev pub with_text : List ℕ → List ℕ → Tree → Tree
with_text name s null = null
with_text name s (boolean b) = boolean b
with_text name s (integer n) = integer n
with_text name s (text t) = text t
with_text name s (list ts) = list ts
with_text name s (object ps) = object (put name (text s) ps)

-- a text that the value has as its moment of creation is kept; else it is the moment
abbrev pub with_created : List ℕ → Tree → Tree
with_created moment t =
    cond (has_text (codes "_createdAt") t) t (with_text (codes "_createdAt") moment t)

-- The document that a value becomes: with the transaction's id as its revision, and the moment as
-- that of its last update, whatever the value gave for these.
abbrev pub entered : List ℕ → List ℕ → Tree → Tree
entered tx moment t = stamped tx moment (with_created moment t)

-- the id of a created document that has none: the transaction's id, a dash and the mutation's
-- index
abbrev pub made_id : List ℕ → ℕ → List ℕ
made_id tx index = tx ++ codes "-" ++ decimal index

abbrev pub with_made_id : List ℕ → ℕ → Tree → Tree
with_made_id tx index t =
    cond (is_some (attribute (codes "_id") t)) t (with_text (codes "_id") (made_id tx index) t)
