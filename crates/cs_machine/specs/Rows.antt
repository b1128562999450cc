-- The rows of the plain machine, one for each command: the state that it leads to, and its replies.
-- Sanity's HTTP documentation, "Mutations" and "Listening", GROQ-1.revision1 for queries, and this
-- project's profile.
use Rattle.std.specs.Prelude.{ℕ, List, [], ◌∷◌, ◌++◌, Bool, map, length, cond, nat_le, Option, Some, None, Ok, Err}
use Rattle.cs_value.specs.Tree.{Tree, Pairs}
use Rattle.cs_syntax.specs.Expression.{Expression}
use Rattle.cs_view.specs.Changes.{Edit, changes_between}
use Rattle.cs_meaning.specs.Values.{query_value}
use Rattle.cs_wire.specs.Commands.{Request, mutate, query, live, listen, stop, at}
use Rattle.cs_reply.specs.Reply.{Operation, create, update, delete, committed, found, welcome, stopped, set}
use Rattle.cs_reply.specs.Reply as plain
use Rattle.cs_reply.specs.Refusal.{bad_command, bad_tx, tx_used, name_used, full_subscriptions, not_listenable, no_name, bad_moment}
use Rattle.cs_listen.specs.Events.{Listener, events}
use Rattle.cs_listen.specs.Listeners.{without}
use Rattle.cs_plain.specs.Plain.{listened_filter}
use Rattle.cs_body.specs.Body.{Body, no_command, bad_id, transaction, body_of}
use Rattle.cs_txn.specs.Commit.{commit}
use Rattle.cs_body.specs.Transaction.{Transaction}
use Rattle.cs_txn.specs.Refused.{Outcome}
use Rattle.cs_machine.specs.Fold.{Stepped}
use Rattle.cs_interest.specs.Limits.{most_subscriptions}
use Rattle.cs_live.specs.Lives.{LiveQuery, Said, made, news, all_refreshed, without_name}
use Rattle.cs_wire.specs.Moments.{is_moment}
use Rattle.cs_machine.specs.Refused.{refuse, with_query}
use Rattle.cs_machine.specs.Replies.{said, not_done}
use Rattle.cs_machine.specs.State.{State, answered, with_docs, with_moment, with_used, with_lives, with_listeners, is_taken}

-- ---- mutate
-- what became of a document, by the sides of the change on which one stands
abbrev pub operation : Option Tree → Option Tree → Operation
operation None after = create
operation (Some d) None = delete
operation (Some d) (Some e) = update

abbrev pub outcome : Edit → List ℕ × Operation
outcome c = (c.0, operation c.1.0 c.1.1)

abbrev pub live_reply : Said → plain.Reply
live_reply answer = plain.live answer.0 answer.1

-- the reply, then the events, then the live answers that are other trees than those printed last
abbrev pub commit_replies : State → List ℕ → List Tree → List Edit → List plain.Reply
commit_replies s tx docs cs =
    committed tx (map outcome cs)
    ∷ (map plain.event (events tx s.moment cs s.listeners) ++ map live_reply (news docs s.lives))

-- the accepted transaction of the id leads to these documents by these changes
abbrev pub installed : State → List ℕ → List Tree → List Edit → Stepped State
installed s tx docs cs = record {
  state = with_lives (all_refreshed docs s.lives) (with_used tx (with_docs docs s));
  replies = map said (commit_replies s tx docs cs);
}

abbrev pub by_outcome : State → List ℕ → Outcome → Stepped State
by_outcome s tx (Err r) = record { state = s; replies = not_done r ∷ [] }
by_outcome s tx (Ok docs) = installed s tx docs (changes_between s.docs docs)

-- an id that an accepted transaction has is used
abbrev pub by_transaction : State → Transaction → Stepped State
by_transaction s txn =
    cond (s.is_used txn.id) (refuse s (tx_used txn.id))
    (by_outcome s txn.id (commit txn s.moment s.docs))

abbrev pub by_body : State → Body → Stepped State
by_body s no_command = refuse s bad_command
by_body s bad_id = refuse s bad_tx
by_body s (transaction txn) = by_transaction s txn

abbrev pub row_mutate : State → ℕ → Tree → Stepped State
row_mutate s n body = by_body s (body_of body n)

-- ---- query
abbrev pub row_query : State → List ℕ → Pairs → Stepped State
row_query s text params = with_query s text (λ e. answered s (found (query_value s.docs params e)))

-- ---- live
abbrev pub lively : State → LiveQuery → Stepped State
lively s l = answered (with_lives (s.lives ++ l ∷ []) s) (plain.live l.name l.last)

-- the name is free and there is room, or the line is refused
abbrev pub subscribing : State → List ℕ → ℕ → Stepped State → Stepped State
subscribing s name count next =
    cond (is_taken name s) (refuse s (name_used name))
    (cond (nat_le most_subscriptions count) (refuse s (full_subscriptions most_subscriptions)) next)

abbrev pub row_live : State → List ℕ → List ℕ → Pairs → Stepped State
row_live s name text params =
    with_query s text
    (λ e. subscribing s name (length s.lives) (lively s (made s.docs name e params)))

-- ---- listen
abbrev pub listening : State → Listener → Stepped State
listening s l = answered (with_listeners (s.listeners ++ l ∷ []) s) (welcome l.name)

abbrev pub by_filter : State → List ℕ → Pairs → Bool → Bool → Option Expression → Stepped State
by_filter s name params result previous None = refuse s not_listenable
by_filter s name params result previous (Some f) =
    subscribing s name (length s.listeners)
    (listening s
    (record {
      name = name;
      filter = f;
      params = params;
      with_result = result;
      with_previous = previous;
    }))

abbrev pub row_listen : State → List ℕ → List ℕ → Pairs → Bool → Bool → Stepped State
row_listen s name text params result previous =
    with_query s text (λ e. by_filter s name params result previous (listened_filter e))

-- ---- stop
abbrev pub without_named : List ℕ → State → State
without_named name s =
    with_listeners (without name s.listeners)
    (with_lives (without_name name s.lives) s)

abbrev pub row_stop : State → List ℕ → Stepped State
row_stop s name =
    cond (is_taken name s) (answered (without_named name s) (stopped name))
    (refuse s (no_name name))

-- ---- at
abbrev pub row_at : State → List ℕ → Stepped State
row_at s moment =
    cond (is_moment moment) (answered (with_moment moment s) (set moment)) (refuse s bad_moment)

-- ---- the table
abbrev pub row : State → ℕ → Request → Stepped State
row s n (mutate body) = row_mutate s n body
row s n (query text params) = row_query s text params
row s n (live name text params) = row_live s name text params
row s n (listen name text params result previous) = row_listen s name text params result previous
row s n (stop name) = row_stop s name
row s n (at moment) = row_at s moment
