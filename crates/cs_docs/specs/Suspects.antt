-- Where a dangling reference can stand after changes of a clean dataset. For private clauses.
use Rattle.std.specs.Prelude.{ℕ, List, Bool, not, ◌&&◌, is_some, Option, Some, None, cond}
use Rattle.std.specs.List.{list_any}
use Rattle.std.specs.Ordering.{is_lt}
use Rattle.std.specs.FinMap.Entries.{find}
use Rattle.cs_value.specs.Tree.{Tree}
use Rattle.cs_view.specs.Document.{id_of}
use Rattle.cs_view.specs.Dataset.{id_cmp, same_id}
use Rattle.cs_view.specs.Changes.{Edit}
use Rattle.cs_view.specs.Keys.{has_ref}
use Rattle.cs_value.specs.Words.{first_of}
use Rattle.cs_docs.specs.References.{missing}

abbrev pub is_changed : List Edit → List ℕ → Bool
is_changed cs id = is_some (find id_cmp id cs)

-- a strong reference of the document dangles
abbrev pub dangles : List Tree → Tree → Bool
dangles docs d = is_some (first_of (missing docs d))

-- an unchanged document that refers to the id
abbrev pub is_referrer : List Edit → List ℕ → Tree → Bool
is_referrer cs id d = has_ref id d && not (is_changed cs (id_of d))

abbrev pub at_change : List Edit → List ℕ → Option Tree → Tree → Bool
at_change cs id None d = is_referrer cs id d
at_change cs id (Some a) d = same_id id (id_of d)

-- the change puts this document there, or takes away what it refers to
abbrev pub suspected : List Edit → Tree → Edit → Bool
suspected cs d c = at_change cs c.0 c.1.1 d

abbrev pub is_suspect : List Edit → List Edit → Tree → Bool
is_suspect cs done d = list_any (suspected cs d) done

-- of two documents the one with the lesser id
abbrev pub lesser : Option Tree → Option Tree → Option Tree
lesser None b = b
lesser (Some x) None = Some x
lesser (Some x) (Some y) = cond (is_lt (id_cmp (id_of y) (id_of x))) (Some y) (Some x)
