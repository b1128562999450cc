-- The state of the plain machine: this project's profile. It holds no index, no record of keys and
-- no cache.
use Rattle.std.specs.Prelude.{ℕ, List, [], ◌∷◌, Bool, true, false, ◌||◌, cond, codes}
use Rattle.std.specs.Str.{bytes_eq}
use Rattle.cs_value.specs.Tree.{Tree}
use Rattle.cs_reply.specs.Reply as plain
use Rattle.cs_listen.specs.Events.{Listener}
use Rattle.cs_listen.specs.Listeners.{is_listening}
use Rattle.cs_machine.specs.Replies.{said}
use Rattle.cs_machine.specs.Fold.{Stepped}
use Rattle.cs_live.specs.Lives.{LiveQuery, is_named}

-- the documents, ascending by their ids; the moment; which ids accepted transactions have; live
-- queries and listeners in the order made
pub record State : Type 0 where
  pub docs : List Tree
  pub moment : List ℕ
  pub is_used : List ℕ → Bool
  pub lives : List LiveQuery
  pub listeners : List Listener

-- the moment at which every run begins
abbrev pub first_moment : List ℕ
first_moment = codes "1970-01-01T00:00:00Z"

-- the state in which a script begins
abbrev pub begun : List Tree → State
begun docs =
    record {
      docs = docs;
      moment = first_moment;
      is_used = λ id. false;
      lives = [];
      listeners = [];
    }

abbrev pub with_docs : List Tree → State → State
with_docs docs s = record s { docs = docs }

abbrev pub with_moment : List ℕ → State → State
with_moment moment s = record s { moment = moment }

-- the id is used too
abbrev pub and_used : List ℕ → (List ℕ → Bool) → List ℕ → Bool
and_used tx is_used id = cond (bytes_eq tx id) true (is_used id)

abbrev pub with_used : List ℕ → State → State
with_used tx s = record s { is_used = and_used tx s.is_used }

abbrev pub with_lives : List LiveQuery → State → State
with_lives lives s = record s { lives = lives }

abbrev pub with_listeners : List Listener → State → State
with_listeners listeners s = record s { listeners = listeners }

-- a live query or a listener has the name
abbrev pub is_taken : List ℕ → State → Bool
is_taken name s = is_named name s.lives || is_listening name s.listeners

-- the line leads to the state, with one reply
abbrev pub answered : State → plain.Reply → Stepped State
answered s reply = record { state = s; replies = said reply ∷ [] }
