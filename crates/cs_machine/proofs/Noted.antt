-- The ids of accepted transactions.
use Rattle.std.proofs.Common.{◌≡◌, ◌∙◌, ap, refl, ℕ, List, [], ◌∷◌, ◌++◌, map, Bool, true, false, ◌||◌, cond, bytes_eq}
use Rattle.std.specs.List.{list_any}
use Rattle.std.proofs.lemmas.Slice.Eq.{bytes_eq-Decides}
use Rattle.cs_value.specs.Tree.{Tree}
use Rattle.cs_view.specs.Changes.{Edit, changes_between}
use Rattle.cs_reply.specs.Reply as plain
use Rattle.cs_listen.specs.Events.{events}
use Rattle.cs_machine.specs.Fold.{Stepped}
use Rattle.cs_machine.specs.Laws.{accepts, IdsAreUsedOnce, UsedIdsStayUsed}
use Rattle.cs_live.specs.Lives.{Said, news}
use Rattle.cs_machine.specs.Replies.{said}
use Rattle.cs_machine.specs.Rows.{live_reply, commit_replies}
use Rattle.cs_machine.specs.State.{State, and_used}
use Rattle.cs_machine.proofs.Steps.{Cases, step-case}

-- ---- the replies to a transaction that is accepted
lives_accept_none : (tx : List ℕ) (ls : List Said)
    → list_any (accepts tx) (map said (map live_reply ls)) ≡ false
lives_accept_none tx [] = refl
lives_accept_none tx (l ∷ ls) = lives_accept_none tx ls

events_accept_none : (tx : List ℕ) (es : List plain.Event) (ls : List Said)
    → list_any (accepts tx) (map said (map plain.event es ++ map live_reply ls)) ≡ false
events_accept_none tx [] ls = lives_accept_none tx ls
events_accept_none tx (e ∷ es) ls = events_accept_none tx es ls

either_of : (a b : Bool) → b ≡ false → (a || b) ≡ true → a ≡ true
either_of true b none h = refl
either_of false b none h = cc

accepted_is : (s : State) (tx id : List ℕ) (docs : List Tree) (cs : List Edit)
    → list_any (accepts tx) (map said (commit_replies s id docs cs)) ≡ true
    → tx ≡ id
accepted_is s tx id docs cs h =
    (bytes_eq-Decides tx id).0
    (either_of (bytes_eq tx id) _
    (events_accept_none tx (events id s.moment cs s.listeners) (news docs s.lives)) h)

-- ---- the ids
now_used : (id : List ℕ) (is_used : List ℕ → Bool) → and_used id is_used id ≡ true
now_used id is_used =
    let same : bytes_eq id id ≡ true = (bytes_eq-Decides id id).1 refl in
    rw same refl

still_used : (b u : Bool) → u ≡ true → cond b true u ≡ true
still_used true u h = refl
still_used false u h = h

abbrev UsedOnce : State → List ℕ → Stepped State → Type 0
UsedOnce s tx out =
    list_any (accepts tx) out.replies ≡ true
    → (s.is_used tx ≡ false) × (out.state.is_used tx ≡ true)

once_cases : (s : State) (tx : List ℕ) → Cases (UsedOnce s tx) s
once_cases s tx = record {
  blank = λ h. cc;
  refuses = λ r h. cc;
  refuses_transaction = λ r h. cc;
  installs = λ txn docs unused e h.
      let is = accepted_is s tx txn.id docs (changes_between s.docs docs) h in
      (ap s.is_used is ∙ unused, ap (and_used txn.id s.is_used) is ∙ now_used txn.id s.is_used);
  finds = λ t h. cc;
  adds_live = λ l free room is h. cc;
  adds_listener = λ l free room h. cc;
  stops = λ name h. cc;
  sets = λ moment h. cc;
}

pub used-once : IdsAreUsedOnce
used-once s n line tx = step-case (UsedOnce s tx) s (once_cases s tx) n line

abbrev StaysUsed : List ℕ → Stepped State → Type 0
StaysUsed id out = out.state.is_used id ≡ true

stay_cases : (s : State) (id : List ℕ) → s.is_used id ≡ true → Cases (StaysUsed id) s
stay_cases s id h = record {
  blank = h;
  refuses = λ r. h;
  refuses_transaction = λ r. h;
  installs = λ txn docs unused e. still_used (bytes_eq txn.id id) (s.is_used id) h;
  finds = λ t. h;
  adds_live = λ l free room is. h;
  adds_listener = λ l free room. h;
  stops = λ name. h;
  sets = λ moment. h;
}

pub used-stay : UsedIdsStayUsed
used-stay s n line id h = step-case (StaysUsed id) s (stay_cases s id h) n line
