-- The row of a transaction, and what an accepted one leaves.
use Rattle.std.proofs.Common.{◌≡◌, refl, ap, sym, ◌∙◌, ℕ, List, [], ◌∷◌, ◌++◌, true, false, Err, Ok}
use Rattle.std.proofs.lemmas.List.{append-nil}
use Rattle.cs_value.specs.Tree.{Tree}
use Rattle.cs_view.specs.Changes.{Edit, after_changes, AreChangesBetween, changes_between}
use Rattle.cs_view.specs.Dataset.{is_dataset}
use Rattle.cs_view.specs.Laws.{ChangesAreComputed, ChangesAreOneList}
use Rattle.cs_view.proofs.Booleans.{and-left}
use Rattle.cs_reply.specs.View.{Appended}
use Rattle.cs_body.specs.Transaction.{Transaction}
use Rattle.cs_txn.specs.Commit.{commit}
use Rattle.cs_txn.specs.Laws.{CommitsKeepDatasets}
use Rattle.cs_txn.specs.Refused.{Refused}
use Rattle.cs_machine.specs.Replies.{not_done, reply_line, reply_tree}
use Rattle.cs_machine.specs.Rows.{installed, by_transaction}
use Rattle.cs_machine.specs.State.{State}
use Rattle.cs_machine.specs.Expected.{counted}
use Rattle.cs_gen.specs.Tally.{IsTally}
use Rattle.cs_gen.specs.declared.tally.Tally.{Tally}
use Rattle.cs_state.specs.State.{state, IsUsable}
use Rattle.cs_state.specs.Does.{Does}
use Rattle.cs_state.specs.declared.state.State.{State as Held}

-- an accepted transaction
pub row_accepted : (s : State) (x : Transaction) (after : List Tree) (cs : List Edit)
    → s.is_used x.id ≡ false
    → commit x s.moment s.docs ≡ Ok after
    → changes_between s.docs after ≡ cs
    → by_transaction s x ≡ installed s x.id after cs
row_accepted s x after cs unused ok are =
    rw (unused, ok) (ap (λ (es : List Edit). installed s x.id after es) are)

-- That there is one list of changes between two datasets makes these the ones that are told.
pub changes_known : CommitsKeepDatasets → ChangesAreComputed → ChangesAreOneList
    → (s : State) (x : Transaction) (cs : List Edit)
    → is_dataset s.docs ≡ true
    → commit x s.moment s.docs ≡ Ok (after_changes s.docs cs)
    → AreChangesBetween s.docs (after_changes s.docs cs) cs
    → changes_between s.docs (after_changes s.docs cs) ≡ cs
changes_known keeps computes one s x cs held ok between =
    let after = after_changes s.docs cs in
    let kept = keeps x s.moment s.docs after held ok in
    let computed = computes s.docs after (and-left _ _ held) (and-left _ _ kept.0) in
    one s.docs after (changes_between s.docs after) cs computed between

-- an accepted transaction of which the changes are known
pub row_known : CommitsKeepDatasets → ChangesAreComputed → ChangesAreOneList
    → (s : State) (x : Transaction) (cs : List Edit)
    → is_dataset s.docs ≡ true
    → s.is_used x.id ≡ false
    → commit x s.moment s.docs ≡ Ok (after_changes s.docs cs)
    → AreChangesBetween s.docs (after_changes s.docs cs) cs
    → by_transaction s x ≡ installed s x.id (after_changes s.docs cs) cs
row_known keeps computes one s x cs held unused ok between =
    row_accepted s x (after_changes s.docs cs) cs unused ok
    (changes_known keeps computes one s x cs held ok between)

-- a refused one
pub row_refused : (s : State) (x : Transaction) (r : Refused)
    → s.is_used x.id ≡ false
    → commit x s.moment s.docs ≡ Err r
    → by_transaction s x ≡ record { state = s; replies = not_done r ∷ [] }
row_refused s x r unused err = rw (unused, err) refl

-- the reply to a refused transaction alone was written
pub says_refused : (before after : List ℕ) (tally : Tally) (held : Held) (n : ℕ) (r : Refused)
    → IsUsable held
    → IsTally tally (counted (not_done r) ∷ [])
    → Appended before after (reply_tree n (not_done r))
    → Does before after tally held n (record { state = state held; replies = not_done r ∷ [] })
says_refused before after tally held n r usable tallied h = record {
  written = h ∙ ap (λ v. before ++ v) (sym (append-nil (reply_line (n, not_done r))));
  tallied = tallied;
  state_is = refl;
  usable = usable;
}
