-- What a document is: an object with the attributes that Sanity's documentation ("Document") gives
-- each one, within this project's limits.
use Rattle.std.specs.Prelude.{ℕ, List, [], length, Bool, false, ◌&&◌, nat_le, nat_lt, is_some, Option, Some, None, codes, unwrap_or}
use Rattle.cs_value.specs.Tree.{Tree, depth}
use Rattle.cs_value.specs.Id.{is_id}
use Rattle.cs_value.specs.Words.{is_object, text_at}

-- something is there and passes the test
abbrev pub passes : {A : Type 0} → (A → Bool) → Option A → Bool
passes p None = false
passes p (Some a) = p a

-- how many levels of lists and objects a document may nest
abbrev pub deepest_document : ℕ
deepest_document = 48

abbrev pub is_shallow : Tree → Bool
is_shallow t = nat_le (depth t) deepest_document

-- an id as `_id`
abbrev pub has_id : Tree → Bool
has_id t = passes is_id (text_at (codes "_id") t)

-- a text of at least one byte as `_type`
abbrev pub has_type : Tree → Bool
has_type t = passes (λ s. nat_lt 0 (length s)) (text_at (codes "_type") t)

abbrev pub has_text : List ℕ → Tree → Bool
has_text name t = is_some (text_at name t)

-- an object with an id and a type
abbrev pub is_body : Tree → Bool
is_body t = is_object t && has_id t && has_type t

abbrev pub is_document : Tree → Bool
is_document t =
    is_body t && is_shallow t && has_text (codes "_rev") t && has_text (codes "_createdAt") t
    && has_text (codes "_updatedAt") t

abbrev pub id_of : Tree → List ℕ
id_of t = unwrap_or (text_at (codes "_id") t) []

abbrev pub rev_of : Tree → List ℕ
rev_of t = unwrap_or (text_at (codes "_rev") t) []
