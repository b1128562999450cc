-- Live queries and listeners stay within their limit.
use Rattle.std.proofs.Common.{◌≡◌, ◌≤◌, ◌<◌, ℕ, ◌+◌, suc, List, [], ◌∷◌, ◌++◌, length, nat_le, Bool, true, false, not, cond, refl, ap, arith}
use Rattle.std.specs.List.{filter}
use Rattle.std.proofs.lemmas.Bool.{leb-false}
use Rattle.cs_value.specs.Tree.{Tree}
use Rattle.cs_machine.specs.Laws.{RunsStayWithinLimits}
use Rattle.cs_interest.specs.Limits.{most_subscriptions}
use Rattle.cs_live.specs.Lives.{LiveQuery, all_refreshed, has_live_name, without_name}
use Rattle.cs_listen.specs.Listeners.{has_name}
use Rattle.cs_machine.specs.State.{State, begun}
use Rattle.cs_machine.proofs.Steps.{Cases, lines-keep}

abbrev IsLimited : State → Type 0
IsLimited s = (length s.lives ≤ most_subscriptions) × (length s.listeners ≤ most_subscriptions)

one_more : {X : Type 0} (xs : List X) (y : X) → length (xs ++ y ∷ []) ≡ length xs + 1
one_more [] y = refl
one_more (x ∷ xs) y = let rest = one_more xs y in omega (arith, rest)

room_for : {X : Type 0} (xs : List X) (y : X) → nat_le most_subscriptions (length xs) ≡ false
    → length (xs ++ y ∷ []) ≤ most_subscriptions
room_for xs y h =
    let below : length xs < most_subscriptions = leb-false most_subscriptions (length xs) h in
    rw (one_more xs y) (omega (arith, below))

as_many : (docs : List Tree) (es : List LiveQuery) → length (all_refreshed docs es) ≡ length es
as_many docs [] = refl
as_many docs (e ∷ es) = ap suc (as_many docs es)

filter_one : {X : Type 0} (b : Bool) (x : X) (ys xs : List X) → length ys ≤ length xs
    → length (cond b (x ∷ ys) ys) ≤ length (x ∷ xs)
filter_one true x ys xs h = omega (arith, h)
filter_one false x ys xs h = omega (arith, h)

filter_fewer : {X : Type 0} (p : X → Bool) (xs : List X) → length (filter p xs) ≤ length xs
filter_fewer p [] = omega arith
filter_fewer p (x ∷ xs) = filter_one (p x) x (filter p xs) xs (filter_fewer p xs)

without_one : (b : Bool) (e : LiveQuery) (es fs : List LiveQuery) → length fs ≤ length es
    → length (cond b es (e ∷ fs)) ≤ length (e ∷ es)
without_one true e es fs h = omega arith
without_one false e es fs h = omega (arith, h)

without_fewer : (name : List ℕ) (es : List LiveQuery) → length (without_name name es) ≤ length es
without_fewer name [] = omega arith
without_fewer name (e ∷ es) =
    without_one (has_live_name name e) e es (without_name name es) (without_fewer name es)

stopped_limited : (name : List ℕ) (s : State) → IsLimited s
    → (length (without_name name s.lives) ≤ most_subscriptions)
    × (length (filter (λ l. not (has_name name l)) s.listeners) ≤ most_subscriptions)
stopped_limited name s h =
    let lives = without_fewer name s.lives in
    let listeners = filter_fewer (λ l. not (has_name name l)) s.listeners in
    let before = h.0 in
    let others = h.1 in
    (omega (arith, lives, before), omega (arith, listeners, others))

limited_cases : (s : State) → IsLimited s → Cases (λ out. IsLimited out.state) s
limited_cases s h = record {
  blank = h;
  refuses = λ r. h;
  refuses_transaction = λ r. h;
  installs = λ txn docs unused e. (rw (as_many docs s.lives) h.0, h.1);
  finds = λ t. h;
  adds_live = λ l free room is. (room_for s.lives l room, h.1);
  adds_listener = λ l free room. (h.0, room_for s.listeners l room);
  stops = λ name. stopped_limited name s h;
  sets = λ moment. h;
}

pub runs-limited : RunsStayWithinLimits
runs-limited docs n lines =
    lines-keep IsLimited limited_cases (begun docs) n lines (omega arith, omega arith)
