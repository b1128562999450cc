-- The last answer of each live query was told.
use Rattle.std.proofs.Common.{◌≡◌, ℕ, List, [], ◌∷◌, ◌++◌, map, Bool, true, false, not, cond, inl, inr, refl, sym, ap, subst}
use Rattle.std.specs.List.{AllByRecursion, Contains, filter}
use Rattle.std.proofs.lemmas.List.Elements.{Contains-append_left, Contains-append_right, Contains-push}
use Rattle.cs_value.specs.Tree.{Tree}
use Rattle.cs_value.specs.Same.{same_tree}
use Rattle.cs_view.specs.Changes.{Edit, changes_between}
use Rattle.cs_view.proofs.Sames.{same-one}
use Rattle.cs_reply.specs.Reply as plain
use Rattle.cs_listen.specs.Events.{events}
use Rattle.cs_machine.specs.Fold.{Stepped}
use Rattle.cs_machine.specs.Laws.{IsTold, LastAnswersAreTold}
use Rattle.cs_live.specs.Lives.{LiveQuery, value_of, is_stale, refreshed, all_refreshed, say, news}
use Rattle.cs_machine.specs.Refused.{refuse}
use Rattle.cs_machine.specs.Replies.{Reply, said, not_done}
use Rattle.cs_machine.specs.Rows.{live_reply, installed, commit_replies, lively, listening, without_named}
use Rattle.cs_machine.specs.State.{State, answered, with_moment}
use Rattle.cs_machine.proofs.Lived.{each_with, each_without}
use Rattle.cs_machine.proofs.Steps.{Cases, step-case}

-- ---- elements
here : {X : Type 0} (x : X) (xs : List X) → Contains (x ∷ xs) x
here x xs = Contains-append_left (x ∷ []) xs x (Contains-push [] x)

there : {X : Type 0} (y : X) (xs : List X) (x : X) → Contains xs x → Contains (y ∷ xs) x
there y xs x h = Contains-append_right (y ∷ []) xs x h

each_in : {X : Type 0} (P : X → Type 0) (xs : List X) → ((x : X) → Contains xs x → P x)
    → AllByRecursion P xs
each_in P [] h = tt
each_in P (x ∷ xs) h = (h x (here x xs), each_in P xs (λ y c. h y (there x xs y c)))

each_also : {X : Type 0} (P Q : X → Type 0) (xs : List X) → ((x : X) → P x → Q x)
    → AllByRecursion P xs → AllByRecursion Q xs
each_also P Q [] f h = tt
each_also P Q (x ∷ xs) f h = (f x h.0, each_also P Q xs f h.1)

-- ---- what is told of stale live queries
abbrev told_now : List Tree → LiveQuery → Reply
told_now docs e = said (plain.live e.name (value_of docs e))

abbrev all_told : List Tree → List LiveQuery → List Reply
all_told docs es = map said (map live_reply (map say (all_refreshed docs es)))

abbrev IsTellable : List Tree → List LiveQuery → LiveQuery → Type 0
IsTellable docs fs e = is_stale docs e ≡ true → Contains (all_told docs fs) (told_now docs e)

first_tellable : (docs : List Tree) (b : Bool) (e : LiveQuery) (fs : List LiveQuery) → b ≡ true
    → Contains (all_told docs (cond b (e ∷ fs) fs)) (told_now docs e)
first_tellable docs true e fs h = here (told_now docs e) (all_told docs fs)
first_tellable docs false e fs h = absurd cc

rest_tellable : (docs : List Tree) (b : Bool) (e : LiveQuery) (fs es : List LiveQuery)
    → AllByRecursion (IsTellable docs fs) es
    → AllByRecursion (IsTellable docs (cond b (e ∷ fs) fs)) es
rest_tellable docs true e fs es h =
    each_also (IsTellable docs fs) (IsTellable docs (e ∷ fs)) es
    (λ x c stale. there (told_now docs e) (all_told docs fs) (told_now docs x) (c stale)) h
rest_tellable docs false e fs es h = h

stale_tellable : (docs : List Tree) (es : List LiveQuery)
    → AllByRecursion (IsTellable docs (filter (is_stale docs) es)) es
stale_tellable docs [] = tt
stale_tellable docs (e ∷ es) = (
  first_tellable docs (is_stale docs e) e (filter (is_stale docs) es),
  rest_tellable docs (is_stale docs e) e (filter (is_stale docs) es) es (stale_tellable docs es),
)

-- ---- a commit
after_events : (es : List plain.Event) (rs : List plain.Reply) (r : Reply)
    → Contains (map said rs) r → Contains (map said (map plain.event es ++ rs)) r
after_events [] rs r h = h
after_events (e ∷ es) rs r h =
    there (said (plain.event e)) (map said (map plain.event es ++ rs)) r (after_events es rs r h)

in_commit : (s : State) (tx : List ℕ) (docs : List Tree) (cs : List Edit) (r : Reply)
    → Contains (map said (map live_reply (news docs s.lives))) r
    → Contains (map said (commit_replies s tx docs cs)) r
in_commit s tx docs cs r h =
    there _ _ r
    (after_events (events tx s.moment cs s.listeners) (map live_reply (news docs s.lives)) r h)

is_yes : (b : Bool) → not b ≡ false → b ≡ true
is_yes true h = refl
is_yes false h = cc

with_last : LiveQuery → Tree → LiveQuery
with_last e t = record { name = e.name; query = e.query; params = e.params; last = t }

same_answer : (docs : List Tree) (e : LiveQuery) → is_stale docs e ≡ false → refreshed docs e ≡ e
unfolding with_last
same_answer docs e h =
    ap (with_last e)
    (same-one (value_of docs e) e.last (is_yes (same_tree (value_of docs e) e.last) h))

refreshed_told : (s : State) (tx : List ℕ) (docs : List Tree) (cs : List Edit) (e : LiveQuery)
    → Contains s.lives e → IsTellable docs (filter (is_stale docs) s.lives) e
    → IsTold s (installed s tx docs cs).replies (refreshed docs e)
refreshed_told s tx docs cs e there_before tellable =
    elim (is_stale docs e) as (λ b. is_stale docs e ≡ b
    → IsTold s (installed s tx docs cs).replies (refreshed docs e)) [
      | true ↦ λ h. inr (in_commit s tx docs cs (told_now docs e) (tellable h))
      | false ↦ λ h. inl (subst (Contains s.lives) (sym (same_answer docs e h)) there_before)
    ] refl

each_refreshed : (P Q R : LiveQuery → Type 0) (docs : List Tree) (es : List LiveQuery)
    → ((e : LiveQuery) → P e → Q e → R (refreshed docs e))
    → AllByRecursion P es → AllByRecursion Q es → AllByRecursion R (all_refreshed docs es)
each_refreshed P Q R docs [] f p q = tt
each_refreshed P Q R docs (e ∷ es) f p q =
    (f e p.0 q.0, each_refreshed P Q R docs es f p.1 q.1)

-- ---- a line
abbrev AreTold : State → Stepped State → Type 0
AreTold s out = AllByRecursion (IsTold s out.replies) out.state.lives

as_before : (s : State) (rs : List Reply) → AllByRecursion (IsTold s rs) s.lives
as_before s rs = each_in (IsTold s rs) s.lives (λ e c. inl c)

told_cases : (s : State) → Cases (AreTold s) s
told_cases s = record {
  blank = as_before s [];
  refuses = λ r. as_before s (refuse s r).replies;
  refuses_transaction = λ r. as_before s (not_done r ∷ []);
  installs = λ txn docs unused e.
      let cs = changes_between s.docs docs in
      each_refreshed (Contains s.lives) (IsTellable docs (filter (is_stale docs) s.lives))
      (IsTold s (installed s txn.id docs cs).replies) docs s.lives
      (λ l. refreshed_told s txn.id docs cs l) (each_in (Contains s.lives) s.lives (λ l c. c))
      (stale_tellable docs s.lives);
  finds = λ t. as_before s (answered s (plain.found t)).replies;
  adds_live = λ l free room is.
      let rs = (lively s l).replies in
      each_with (IsTold s rs) s.lives l (as_before s rs)
      (inr (here (said (plain.live l.name l.last)) []));
  adds_listener = λ l free room. as_before s (listening s l).replies;
  stops = λ name.
      let rs = (answered (without_named name s) (plain.stopped name)).replies in
      each_without (IsTold s rs) name s.lives (as_before s rs);
  sets = λ moment. as_before s (answered (with_moment moment s) (plain.set moment)).replies;
}

pub last-told : LastAnswersAreTold
last-told s n line = step-case (AreTold s) s (told_cases s) n line
