-- How many documents a transaction visits at most, where its queries are simple: this project's
-- profile.
use Rattle.std.specs.Prelude.{◌≡◌, ◌≤◌, ℕ, ◌+◌, Bool, true, cond}
use Rattle.cs_view.specs.Changes.{changes_between}
use Rattle.cs_body.specs.Body.{Body, no_command, bad_id, transaction}
use Rattle.cs_body.specs.Transaction.{Transaction}
use Rattle.cs_txn.specs.Visits.{are_simple, costs}
use Rattle.cs_docs.specs.Store.{docs}
use Rattle.cs_live.specs.Fits.{IsUntouched}
use Rattle.cs_machine.specs.Fold.{Stepped}
use Rattle.cs_machine.specs.State.{State}
use Rattle.cs_state.specs.declared.state.State.{State as Held}

-- each query of the transaction is refused or simple
abbrev pub is_simple_body : Body → Bool
is_simple_body no_command = true
is_simple_body bad_id = true
is_simple_body (transaction txn) = are_simple txn.actions

-- the costs of the mutations, one after another; nothing is asked where the id is used
abbrev pub transaction_cost : State → Transaction → ℕ
transaction_cost s txn = cond (s.is_used txn.id) 0 (costs txn.id s.moment 0 txn.actions s.docs)

abbrev pub body_cost : State → Body → ℕ
body_cost s no_command = 0
body_cost s bad_id = 0
body_cost s (transaction txn) = transaction_cost s txn

-- The counter rose by at most this cost, if the queries are simple and the changes of the step
-- touch no record that a live query keeps.
abbrev pub VisitsFew : Bool → ℕ → Held → Stepped State → ℕ → ℕ → Type 0
VisitsFew simple cost old out before after =
    simple ≡ true → IsUntouched old.live (changes_between (docs old.docs) out.state.docs)
    → after ≤ before + cost
