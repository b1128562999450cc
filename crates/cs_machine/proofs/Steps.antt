-- What a line can lead to, case by case.
use Rattle.std.proofs.Common.{◌≡◌, ℕ, ◌+◌, List, [], ◌∷◌, length, nat_le, Bool, true, false, cond, Option, Some, None, Ok, Err, refl}
use Rattle.cs_value.specs.Tree.{Tree, Pairs}
use Rattle.cs_syntax.specs.Expression.{Expression}
use Rattle.cs_view.specs.Changes.{changes_between}
use Rattle.cs_json.specs.Reading.{Outcome, not_json, too_deep, not_whole, value, outcome}
use Rattle.cs_meaning.specs.Values.{query_value}
use Rattle.cs_parse.specs.Verdict.{Reading, query as is_query, bad_token, too_deep as deep_query, no_syntax, faulty, verdict}
use Rattle.cs_wire.specs.Commands.{Request, mutate, query, live, listen, stop, at}
use Rattle.cs_wire.specs.Rows.{command}
use Rattle.cs_reply.specs.Refusal as why
use Rattle.cs_reply.specs.Reply.{found, stopped, set}
use Rattle.cs_listen.specs.Events.{Listener}
use Rattle.cs_plain.specs.Plain.{listened_filter}
use Rattle.cs_body.specs.Body.{Body, no_command, bad_id, transaction, body_of}
use Rattle.cs_txn.specs.Commit.{commit}
use Rattle.cs_body.specs.Transaction.{Transaction}
use Rattle.cs_txn.specs.Refused.{Refused, Outcome as Committed}
use Rattle.cs_machine.specs.Causes.{of_fault}
use Rattle.cs_machine.specs.Fold.{Stepped}
use Rattle.cs_interest.specs.Limits.{most_subscriptions}
use Rattle.cs_live.specs.Lives.{LiveQuery, value_of, made}
use Rattle.cs_wire.specs.Blank.{is_blank_line}
use Rattle.cs_machine.specs.Machine.{deepest_line, by_command, heard, step, state_after}
use Rattle.cs_wire.specs.Moments.{is_moment}
use Rattle.cs_machine.specs.Refused.{refuse, by_reading}
use Rattle.cs_machine.specs.Replies.{not_done}
use Rattle.cs_machine.specs.Rows.{installed, by_outcome, by_transaction, by_body, lively, subscribing, listening, by_filter, without_named, row}
use Rattle.cs_machine.specs.State.{State, answered, with_moment, is_taken}

-- each thing that a line can lead to in a state is as said
pub record Cases (P : Stepped State → Type 0) (s : State) : Type 0 where
  pub blank : P (record { state = s; replies = [] })
  pub refuses : (r : why.Refusal) → P (refuse s r)
  pub refuses_transaction : (r : Refused) → P (record { state = s; replies = not_done r ∷ [] })
  pub installs : (txn : Transaction) (docs : List Tree) → s.is_used txn.id ≡ false
      → commit txn s.moment s.docs ≡ Ok docs
      → P (installed s txn.id docs (changes_between s.docs docs))
  pub finds : (t : Tree) → P (answered s (found t))
  pub adds_live : (l : LiveQuery) → is_taken l.name s ≡ false
      → nat_le most_subscriptions (length s.lives) ≡ false → l.last ≡ value_of s.docs l → P (lively s l)
  pub adds_listener : (l : Listener) → is_taken l.name s ≡ false
      → nat_le most_subscriptions (length s.listeners) ≡ false → P (listening s l)
  pub stops : (name : List ℕ) → P (answered (without_named name s) (stopped name))
  pub sets : (moment : List ℕ) → P (answered (with_moment moment s) (set moment))

pub either : {X : Type 0} (P : X → Type 0) (b : Bool) (x y : X) → (b ≡ true → P x)
    → (b ≡ false → P y) → P (cond b x y)
either P true x y g h = g refl
either P false x y g h = h refl

-- ---- mutate
outcome_case : (P : Stepped State → Type 0) (s : State) → Cases P s → (txn : Transaction)
    (o : Committed) → s.is_used txn.id ≡ false → commit txn s.moment s.docs ≡ o
    → P (by_outcome s txn.id o)
outcome_case P s c txn (Ok docs) unused e = c.installs txn docs unused e
outcome_case P s c txn (Err r) unused e = c.refuses_transaction r

transaction_case : (P : Stepped State → Type 0) (s : State) → Cases P s → (txn : Transaction)
    → P (by_transaction s txn)
transaction_case P s c txn =
    either P (s.is_used txn.id) (refuse s (why.tx_used txn.id))
    (by_outcome s txn.id (commit txn s.moment s.docs)) (λ u. c.refuses (why.tx_used txn.id))
    (λ unused. outcome_case P s c txn (commit txn s.moment s.docs) unused refl)

body_case : (P : Stepped State → Type 0) (s : State) → Cases P s → (b : Body) → P (by_body s b)
body_case P s c no_command = c.refuses why.bad_command
body_case P s c bad_id = c.refuses why.bad_tx
body_case P s c (transaction txn) = transaction_case P s c txn

-- ---- queries
reading_case : (P : Stepped State → Type 0) (s : State) → Cases P s → (r : Reading)
    (next : Expression → Stepped State) → ((e : Expression) → P (next e)) → P (by_reading s r next)
reading_case P s c (is_query e) next h = h e
reading_case P s c (bad_token place) next h = c.refuses (why.bad_token place)
reading_case P s c deep_query next h = c.refuses why.deep_query
reading_case P s c no_syntax next h = c.refuses why.syntax
reading_case P s c (faulty f) next h = c.refuses (of_fault f)

subscribing_case : (P : Stepped State → Type 0) (s : State) → Cases P s → (name : List ℕ)
    (count : ℕ) (next : Stepped State)
    → (is_taken name s ≡ false → nat_le most_subscriptions count ≡ false → P next)
    → P (subscribing s name count next)
subscribing_case P s c name count next h =
    either P (is_taken name s) (refuse s (why.name_used name))
    (cond (nat_le most_subscriptions count) (refuse s (why.full_subscriptions most_subscriptions)) next)
    (λ taken. c.refuses (why.name_used name))
    (λ free. either P (nat_le most_subscriptions count) (refuse s (why.full_subscriptions most_subscriptions)) next
    (λ full. c.refuses (why.full_subscriptions most_subscriptions)) (λ room. h free room))

filter_case : (P : Stepped State → Type 0) (s : State) → Cases P s → (name : List ℕ)
    (params : Pairs) (result previous : Bool) (f : Option Expression)
    → P (by_filter s name params result previous f)
filter_case P s c name params result previous None = c.refuses why.not_listenable
filter_case P s c name params result previous (Some f) =
    subscribing_case P s c name (length s.listeners)
    (listening s (record {
      name = name;
      filter = f;
      params = params;
      with_result = result;
      with_previous = previous;
    }))
    (λ free room. c.adds_listener (record {
      name = name;
      filter = f;
      params = params;
      with_result = result;
      with_previous = previous;
    }) free room)

-- ---- the table
row_case : (P : Stepped State → Type 0) (s : State) → Cases P s → (n : ℕ) (r : Request)
    → P (row s n r)
row_case P s c n (mutate body) = body_case P s c (body_of body n)
row_case P s c n (query s1 params) =
    reading_case P s c (verdict s1) (λ e. answered s (found (query_value s.docs params e)))
    (λ e. c.finds (query_value s.docs params e))
row_case P s c n (live name s1 params) =
    reading_case P s c (verdict s1)
    (λ e. subscribing s name (length s.lives) (lively s (made s.docs name e params)))
    (λ e. subscribing_case P s c name (length s.lives) (lively s (made s.docs name e params))
    (λ free room. c.adds_live (made s.docs name e params) free room refl))
row_case P s c n (listen name s1 params result previous) =
    reading_case P s c (verdict s1)
    (λ e. by_filter s name params result previous (listened_filter e))
    (λ e. filter_case P s c name params result previous (listened_filter e))
row_case P s c n (stop name) =
    either P (is_taken name s) (answered (without_named name s) (stopped name))
    (refuse s (why.no_name name)) (λ taken. c.stops name) (λ free. c.refuses (why.no_name name))
row_case P s c n (at moment) =
    either P (is_moment moment) (answered (with_moment moment s) (set moment))
    (refuse s why.bad_moment) (λ is. c.sets moment) (λ is. c.refuses why.bad_moment)

command_case : (P : Stepped State → Type 0) (s : State) → Cases P s → (n : ℕ)
    (r : Option Request) → P (by_command row s n r)
command_case P s c n None = c.refuses why.bad_command
command_case P s c n (Some r) = row_case P s c n r

heard_case : (P : Stepped State → Type 0) (s : State) → Cases P s → (n : ℕ) (o : Outcome)
    → P (heard row s n o)
heard_case P s c n not_json = c.refuses why.not_json
heard_case P s c n too_deep = c.refuses why.too_deep
heard_case P s c n not_whole = c.refuses why.not_whole
heard_case P s c n (value t) = command_case P s c n (command t)

-- so is what any line leads to
pub step-case : (P : Stepped State → Type 0) (s : State) → Cases P s → (n : ℕ) (line : List ℕ)
    → P (step s n line)
unfolding step
step-case P s c n line =
    either P (is_blank_line line) (record { state = s; replies = [] })
    (heard row s n (outcome deepest_line line)) (λ is. c.blank)
    (λ is. heard_case P s c n (outcome deepest_line line))

-- what each line keeps of the state, all lines keep
pub lines-keep : (K : State → Type 0) → ((s : State) → K s → Cases (λ out. K out.state) s)
    → (s : State) (n : ℕ) (lines : List (List ℕ)) → K s → K (state_after s n lines)
lines-keep K h s n [] k = k
lines-keep K h s n (line ∷ lines) k =
    lines-keep K h (step s n line).state (n + 1) lines
    (step-case (λ out. K out.state) s (h s k) n line)
