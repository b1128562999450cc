-- Why a line of a script is refused, and what its reply says of that: this project's profile.
use Rattle.std.specs.Prelude.{ℕ, List, [], ◌∷◌, codes}
use Rattle.cs_value.specs.Tree.{text}
use Rattle.cs_reply.specs.Fields.{Fields, number}

pub data Refusal : Type 0 where
  -- the line has no JSON, or none within the limits, or none that is a command
  not_json : Refusal
  too_deep : Refusal
  not_whole : Refusal
  bad_command : Refusal
  -- a text is no query: the place where no token begins, brackets, syntax, or a name that is at
  -- fault
  bad_token : ℕ → Refusal
  deep_query : Refusal
  syntax : Refusal
  unsupported : List ℕ → Refusal
  unknown_function : List ℕ → Refusal
  arity : List ℕ → Refusal
  no_key : Refusal
  -- a query cannot be listened to; a name is used, or nothing has it; a limit is reached
  not_listenable : Refusal
  name_used : List ℕ → Refusal
  full_subscriptions : ℕ → Refusal
  no_name : List ℕ → Refusal
  -- a text is no moment
  bad_moment : Refusal
  -- a transaction's id has not its form, or is used
  bad_tx : Refusal
  tx_used : List ℕ → Refusal

-- the word that says why
abbrev pub word_of : Refusal → List ℕ
word_of not_json = codes "not-json"
word_of too_deep = codes "too-deep"
word_of not_whole = codes "not-whole"
word_of bad_command = codes "bad-command"
word_of (bad_token at) = codes "bad-token"
word_of deep_query = codes "deep-query"
word_of syntax = codes "syntax"
word_of (unsupported name) = codes "unsupported"
word_of (unknown_function name) = codes "unknown-function"
word_of (arity name) = codes "arity"
word_of no_key = codes "no-key"
word_of not_listenable = codes "not-listenable"
word_of (name_used name) = codes "name-used"
word_of (full_subscriptions limit) = codes "full-subscriptions"
word_of (no_name name) = codes "no-name"
word_of bad_moment = codes "bad-moment"
word_of bad_tx = codes "bad-tx"
word_of (tx_used id) = codes "tx-used"

-- the fields beside the word and the line
abbrev pub details_of : Refusal → Fields
details_of not_json = []
details_of too_deep = []
details_of not_whole = []
details_of bad_command = []
details_of (bad_token at) = (codes "at", number at) ∷ []
details_of deep_query = []
details_of syntax = []
details_of (unsupported name) = (codes "name", text name) ∷ []
details_of (unknown_function name) = (codes "name", text name) ∷ []
details_of (arity name) = (codes "name", text name) ∷ []
details_of no_key = []
details_of not_listenable = []
details_of (name_used name) = (codes "name", text name) ∷ []
details_of (full_subscriptions limit) = (codes "limit", number limit) ∷ []
details_of (no_name name) = (codes "name", text name) ∷ []
details_of bad_moment = []
details_of bad_tx = []
details_of (tx_used id) = (codes "id", text id) ∷ []
