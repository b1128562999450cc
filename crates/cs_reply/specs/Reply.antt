-- The replies to the lines of a script: what each says, the object that it is written as, and its
-- line (RFC 8259, and a newline): this project's profile.
use Rattle.std.specs.Prelude.{ℕ, List, [], ◌∷◌, ◌++◌, map, Option, Some, None, codes}
use Rattle.cs_value.specs.Tree.{Tree, text, list, trees}
use Rattle.cs_json.specs.Text.{json_text}
use Rattle.cs_reply.specs.Fields.{Fields, object_of, number}
use Rattle.cs_reply.specs.Refusal.{Refusal, word_of, details_of}

-- what became of a document
pub data Operation : Type 0 where
  create : Operation
  update : Operation
  delete : Operation

-- how a change looks to a listener
pub data Transition : Type 0 where
  appear : Transition
  changed : Transition
  disappear : Transition

-- what a listener hears of one changed document: the two revisions, and the two documents where it
-- asks for them, of the sides on which the document stands
pub record Event : Type 0 where
  pub listener : List ℕ
  pub id : List ℕ
  pub transition : Transition
  pub previous_rev : Option (List ℕ)
  pub result_rev : Option (List ℕ)
  pub previous : Option Tree
  pub result : Option Tree
  pub tx : List ℕ
  pub moment : List ℕ

-- what a reply says
pub data Reply : Type 0 where
  -- an accepted transaction: its id, and the changed documents with what became of each
  committed : List ℕ → List (List ℕ × Operation) → Reply
  -- what a query found
  found : Tree → Reply
  -- the answer of the live query of a name
  live : List ℕ → Tree → Reply
  -- a listener of a name listens
  welcome : List ℕ → Reply
  event : Event → Reply
  -- the live query or listener of a name was stopped
  stopped : List ℕ → Reply
  -- the moment was set
  set : List ℕ → Reply
  refused : Refusal → Reply

abbrev pub operation_word : Operation → List ℕ
operation_word create = codes "create"
operation_word update = codes "update"
operation_word delete = codes "delete"

abbrev pub transition_word : Transition → List ℕ
transition_word appear = codes "appear"
transition_word changed = codes "update"
transition_word disappear = codes "disappear"

-- what became of one document
abbrev pub outcome : List ℕ × Operation → Tree
outcome o = object_of ((codes "id", text o.0) ∷ (codes "operation", text (operation_word o.1)) ∷ [])

-- a field that is there where its value is
abbrev pub where_there : List ℕ → Option Tree → Fields
where_there name None = []
where_there name (Some t) = (name, t) ∷ []

abbrev pub revision : Option (List ℕ) → Option Tree
revision None = None
revision (Some s) = Some (text s)

abbrev pub event_fields : Event → Fields
event_fields e =
    (codes "documentId", text e.id) ∷ (codes "listener", text e.listener)
    ∷ (codes "timestamp", text e.moment)
    ∷ (codes "transactionId", text e.tx)
    ∷ (codes "transition", text (transition_word e.transition))
    ∷ (codes "type", text (codes "mutation"))
    ∷ (where_there (codes "previousRev") (revision e.previous_rev)
    ++ where_there (codes "resultRev") (revision e.result_rev)
    ++ where_there (codes "previous") e.previous ++ where_there (codes "result") e.result)

-- the fields beside the number of the line
abbrev pub fields_of : Reply → Fields
fields_of (committed tx outcomes) =
    (codes "results", list (trees (map outcome outcomes))) ∷ (codes "transactionId", text tx) ∷ []
fields_of (found t) = (codes "result", t) ∷ []
fields_of (live name t) = (codes "live", text name) ∷ (codes "result", t) ∷ []
fields_of (welcome name) =
    (codes "listener", text name) ∷ (codes "type", text (codes "welcome")) ∷ []
fields_of (event e) = event_fields e
fields_of (stopped name) = (codes "stopped", text name) ∷ []
fields_of (set moment) = (codes "at", text moment) ∷ []
fields_of (refused r) = (codes "error", text (word_of r)) ∷ details_of r

-- a reply to the line with the number
abbrev pub reply_tree : ℕ → Reply → Tree
reply_tree line r = object_of ((codes "line", number line) ∷ fields_of r)

-- a value as a line of its own
abbrev pub written_line : Tree → List ℕ
written_line t = json_text t ++ 10 ∷ []
