-- How far the counter rises over a transaction.
use Rattle.std.proofs.Common.{◌≡◌, ◌≤◌, ◌+◌, ap, sym, ◌∙◌, subst, ℕ, List, Bool, true, false, cond, arith}
use Rattle.cs_view.specs.Changes.{Edit, after_changes, changes_between}
use Rattle.cs_body.specs.Transaction.{Transaction}
use Rattle.cs_txn.specs.Visits.{are_simple, costs}
use Rattle.cs_docs.specs.Store.{docs}
use Rattle.cs_live.specs.Fits.{IsUntouched}
use Rattle.cs_live.specs.declared.live.Live.{Live}
use Rattle.cs_machine.specs.Fold.{Stepped}
use Rattle.cs_machine.specs.Rows.{installed, by_transaction}
use Rattle.cs_machine.specs.State.{State}
use Rattle.cs_state.specs.State.{state}
use Rattle.cs_state.specs.Visits.{VisitsFew, transaction_cost}
use Rattle.cs_state.specs.declared.state.State.{State as Held}

-- a step that is another one too
pub few_as : (b : Bool) (n : ℕ) (held : Held) (one other : Stepped State) (old new : ℕ)
    → other ≡ one → VisitsFew b n held one old new → VisitsFew b n held other old new
few_as b n held one other old new is h =
    subst (λ (o : Stepped State). VisitsFew b n held o old new) (sym is) h

paid : (s : State) (x : Transaction) → s.is_used x.id ≡ false
    → transaction_cost s x ≡ costs x.id s.moment 0 x.actions s.docs
paid s x unused = ap (λ b. cond b 0 (costs x.id s.moment 0 x.actions s.docs)) unused

-- an accepted transaction whose changes touch no record
pub few_accepted : (held : Held) (x : Transaction) (cs : List Edit) (old mid new : ℕ)
    → (state held).is_used x.id ≡ false
    → by_transaction (state held) x
    ≡ installed (state held) x.id (after_changes (state held).docs cs) cs
    → changes_between (state held).docs (after_changes (state held).docs cs) ≡ cs
    → (are_simple x.actions ≡ true
    → mid ≤ old + costs x.id (state held).moment 0 x.actions (state held).docs)
    → (IsUntouched held.live cs → new ≡ mid)
    → VisitsFew (are_simple x.actions) (transaction_cost (state held) x) held
    (by_transaction (state held) x) old new
few_accepted held x cs old mid new unused is are few quiet simple untouched =
    let kept : IsUntouched held.live cs =
    subst (λ (es : List Edit). IsUntouched held.live es)
    (ap (λ (o : Stepped State). changes_between (docs held.docs) o.state.docs) is ∙ are)
    untouched in
    omega (arith, few simple, quiet kept, paid (state held) x unused)

-- a refused one
pub few_refused : (held : Held) (x : Transaction) (old new : ℕ)
    → (state held).is_used x.id ≡ false
    → (are_simple x.actions ≡ true
    → new ≤ old + costs x.id (state held).moment 0 x.actions (state held).docs)
    → VisitsFew (are_simple x.actions) (transaction_cost (state held) x) held
    (by_transaction (state held) x) old new
few_refused held x old new unused few simple untouched =
    omega (arith, few simple, paid (state held) x unused)

-- what a state that is the same in its contracts visits
pub few_from : (b : Bool) (x : Transaction) (old mid : Held) (before after : ℕ)
    → state mid ≡ state old → mid.live ≡ old.live
    → VisitsFew b (transaction_cost (state mid) x) mid (by_transaction (state mid) x) before after
    → VisitsFew b (transaction_cost (state old) x) old (by_transaction (state old) x) before after
few_from b x old mid before after same live few simple untouched =
    subst (λ (s : State). after ≤ before + transaction_cost s x) same (few simple back) where
      back : IsUntouched mid.live (changes_between (docs mid.docs) (by_transaction (state mid) x).state.docs)
      back =
          subst (λ (l : Live). IsUntouched l (changes_between (docs mid.docs) (by_transaction (state mid) x).state.docs)) (sym live)
          (subst (λ (s : State). IsUntouched old.live (changes_between s.docs (by_transaction s x).state.docs)) (sym same) untouched)
