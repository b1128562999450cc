-- A line whose queries are refused or simple leaves all live queries simple, where they were.
use Rattle.std.proofs.Common.{◌≡◌, ◌∙◌, ℕ, List, [], ◌∷◌, ◌++◌, length, Bool, true, false, cond, ◌&&◌, Option, Some, None, Ok, Err, refl, sym, ap, subst}
use Rattle.std.specs.Prelude.{nat_le}
use Rattle.cs_value.specs.Tree.{Tree, Pairs}
use Rattle.cs_view.proofs.Booleans.{and-left, and-right}
use Rattle.cs_syntax.specs.Expression.{Expression}
use Rattle.cs_parse.specs.Verdict.{Reading, query, bad_token, too_deep as deep_query, no_syntax, faulty, verdict}
use Rattle.cs_plan.specs.Simple.{is_simple}
use Rattle.cs_json.specs.Reading.{Outcome, not_json, too_deep, not_whole, value, outcome}
use Rattle.cs_wire.specs.Blank.{is_blank_line}
use Rattle.cs_wire.specs.Commands.{Request, mutate, query as ask, live, listen, stop, at}
use Rattle.cs_wire.specs.Moments.{is_moment}
use Rattle.cs_wire.specs.Rows.{command}
use Rattle.cs_body.specs.Body.{Body, no_command, bad_id, transaction, body_of}
use Rattle.cs_txn.specs.Commit.{commit}
use Rattle.cs_txn.specs.Refused.{Outcome as Committed}
use Rattle.cs_txn.specs.Visits.{is_simple_reading}
use Rattle.cs_plain.specs.Plain.{listened_filter}
use Rattle.cs_reply.specs.Refusal.{bad_moment, full_subscriptions, name_used, no_name, tx_used}
use Rattle.cs_reply.specs.Reply.{found, set, stopped}
use Rattle.cs_listen.specs.Events.{Listener}
use Rattle.cs_meaning.specs.Values.{query_value}
use Rattle.cs_interest.specs.Limits.{most_subscriptions}
use Rattle.cs_live.specs.Lives.{LiveQuery, are_simple_lives, all_refreshed, has_live_name, made, without_name}
use Rattle.cs_machine.specs.Fold.{Stepped}
use Rattle.cs_machine.specs.Machine.{by_command, deepest_line, heard, step}
use Rattle.cs_machine.specs.Refused.{by_reading, refuse}
use Rattle.cs_machine.specs.Rows.{row, row_live, by_body, by_filter, by_outcome, listening, lively, subscribing, without_named}
use Rattle.cs_machine.specs.State.{State, answered, is_taken, with_moment}
use Rattle.cs_core.specs.Laws.{SimpleLinesKeepLivesSimple}
use Rattle.cs_core.specs.Visits.{is_simple_command, is_simple_request, read_command}
use Rattle.cs_core.proofs.Replying.{step_blank, step_heard}

-- ---- lists of live queries
refreshed_simple : (docs : List Tree) (es : List LiveQuery) → are_simple_lives es ≡ true
    → are_simple_lives (all_refreshed docs es) ≡ true
refreshed_simple docs [] h = refl
refreshed_simple docs (e ∷ es) h =
    ap (λ b. b && are_simple_lives (all_refreshed docs es))
    (and-left (is_simple e.query) (are_simple_lives es) h)
    ∙ refreshed_simple docs es (and-right (is_simple e.query) (are_simple_lives es) h)

one_more_simple : (es : List LiveQuery) (l : LiveQuery) → are_simple_lives es ≡ true
    → is_simple l.query ≡ true → are_simple_lives (es ++ l ∷ []) ≡ true
one_more_simple [] l h g = ap (λ b. b && true) g
one_more_simple (e ∷ es) l h g =
    ap (λ b. b && are_simple_lives (es ++ l ∷ []))
    (and-left (is_simple e.query) (are_simple_lives es) h)
    ∙ one_more_simple es l (and-right (is_simple e.query) (are_simple_lives es) h) g

without_simple : (name : List ℕ) (es : List LiveQuery) → are_simple_lives es ≡ true
    → are_simple_lives (without_name name es) ≡ true
without_simple name [] h = refl
without_simple name (e ∷ es) h =
    by_test (has_live_name name e)
    (without_simple name es (and-right (is_simple e.query) (are_simple_lives es) h))
  where
    by_test : (b : Bool) → are_simple_lives (without_name name es) ≡ true
        → are_simple_lives (cond b es (e ∷ without_name name es)) ≡ true
    by_test true rest = and-right (is_simple e.query) (are_simple_lives es) h
    by_test false rest =
        ap (λ b. b && are_simple_lives (without_name name es))
        (and-left (is_simple e.query) (are_simple_lives es) h)
        ∙ rest

-- ---- the rows of the table
module _ (s : State) (simple : are_simple_lives s.lives ≡ true) where
  abbrev Keeps : Stepped State → Type 0
  Keeps out = are_simple_lives out.state.lives ≡ true

  either : (b : Bool) (one other : Stepped State) → Keeps one → Keeps other
      → Keeps (cond b one other)
  either true one other h g = h
  either false one other h g = g

  by_committed : (tx : List ℕ) (o : Committed) → Keeps (by_outcome s tx o)
  by_committed tx (Err r) = simple
  by_committed tx (Ok docs) = refreshed_simple docs s.lives simple

  body_keeps : (b : Body) → Keeps (by_body s b)
  body_keeps no_command = simple
  body_keeps bad_id = simple
  body_keeps (transaction txn) =
      either (s.is_used txn.id) (refuse s (tx_used txn.id))
      (by_outcome s txn.id (commit txn s.moment s.docs)) simple
      (by_committed txn.id (commit txn s.moment s.docs))

  reading_keeps : (r : Reading) (next : Expression → Stepped State)
      → ((e : Expression) → r ≡ query e → Keeps (next e)) → Keeps (by_reading s r next)
  reading_keeps (query e) next h = h e refl
  reading_keeps (bad_token place) next h = simple
  reading_keeps deep_query next h = simple
  reading_keeps no_syntax next h = simple
  reading_keeps (faulty f) next h = simple

  subscribing_keeps : (name : List ℕ) (count : ℕ) (next : Stepped State) → Keeps next
      → Keeps (subscribing s name count next)
  subscribing_keeps name count next h =
      let full : Stepped State = refuse s (full_subscriptions most_subscriptions) in
      either (is_taken name s) (refuse s (name_used name)) (cond (nat_le most_subscriptions count) full next)
      simple (either (nat_le most_subscriptions count) full next simple h)

  live_keeps : (name text : List ℕ) (params : Pairs) → is_simple_reading (verdict text) ≡ true
      → Keeps (row_live s name text params)
  live_keeps name text params h =
      reading_keeps (verdict text)
      (λ e. subscribing s name (length s.lives) (lively s (made s.docs name e params)))
      (λ e is. subscribing_keeps name (length s.lives) (lively s (made s.docs name e params))
      (one_more_simple s.lives (made s.docs name e params) simple
      (subst (λ (r : Reading). is_simple_reading r ≡ true) is h)))

  filter_keeps : (name : List ℕ) (params : Pairs) (result previous : Bool)
      (f : Option Expression) → Keeps (by_filter s name params result previous f)
  filter_keeps name params result previous None = simple
  filter_keeps name params result previous (Some f) =
      let l : Listener = record {
        name = name;
        filter = f;
        params = params;
        with_result = result;
        with_previous = previous;
      } in
      subscribing_keeps name (length s.listeners) (listening s l) simple

  row_keeps : (n : ℕ) (request : Request) → is_simple_request n request ≡ true
      → Keeps (row s n request)
  row_keeps n (mutate body) h = body_keeps (body_of body n)
  row_keeps n (ask text params) h =
      reading_keeps (verdict text) (λ e. answered s (found (query_value s.docs params e)))
      (λ e is. simple)
  row_keeps n (live name text params) h = live_keeps name text params h
  row_keeps n (listen name text params result previous) h =
      reading_keeps (verdict text)
      (λ e. by_filter s name params result previous (listened_filter e))
      (λ e is. filter_keeps name params result previous (listened_filter e))
  row_keeps n (stop name) h =
      either (is_taken name s) (answered (without_named name s) (stopped name))
      (refuse s (no_name name)) (without_simple name s.lives simple) simple
  row_keeps n (at moment) h =
      either (is_moment moment) (answered (with_moment moment s) (set moment))
      (refuse s bad_moment) simple simple

  command_keeps : (n : ℕ) (o : Outcome) → is_simple_command n (read_command o) ≡ true
      → Keeps (heard row s n o)
  command_keeps n not_json h = simple
  command_keeps n too_deep h = simple
  command_keeps n not_whole h = simple
  command_keeps n (value t) h = by_request (command t) refl h where
    by_request : (o : Option Request) → command t ≡ o → is_simple_command n o ≡ true
        → Keeps (heard row s n (value t))
    by_request None is h =
        subst (λ (o : Option Request). Keeps (by_command row s n o)) (sym is) simple
    by_request (Some request) is h =
        subst (λ (o : Option Request). Keeps (by_command row s n o)) (sym is)
        (row_keeps n request h)

pub keep_simple : SimpleLinesKeepLivesSimple
keep_simple s n line h simple = by_blank (is_blank_line line) refl h where
  by_blank : (b : Bool) → is_blank_line line ≡ b
      → is_simple_command n (cond b None (read_command (outcome deepest_line line))) ≡ true
      → are_simple_lives (step s n line).state.lives ≡ true
  by_blank true is h =
      subst (λ (o : Stepped State). are_simple_lives o.state.lives ≡ true)
      (sym (step_blank s n line is)) simple
  by_blank false is h =
      subst (λ (o : Stepped State). are_simple_lives o.state.lives ≡ true)
      (sym (step_heard s n line is)) (command_keeps s simple n (outcome deepest_line line) h)
