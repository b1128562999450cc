-- No name is had twice.
use Rattle.std.proofs.Common.{◌≡◌, ◌≤◌, ℕ, ◌+◌, List, [], ◌∷◌, ◌++◌, length, Bool, true, false, not, cond, bytes_eq, refl, sym, ap, ◌∙◌, arith}
use Rattle.std.specs.List.{filter, list_any}
use Rattle.std.proofs.lemmas.Slice.Eq.{bytes_eq-Decides}
use Rattle.cs_value.specs.Tree.{Tree}
use Rattle.cs_view.proofs.Booleans.{or-left, or-right}
use Rattle.cs_listen.specs.Events.{Listener}
use Rattle.cs_listen.specs.Listeners.{has_name}
use Rattle.cs_machine.specs.Laws.{bearers, RunsNameOnce}
use Rattle.cs_live.specs.Lives.{LiveQuery, refreshed, all_refreshed, has_live_name, without_name, is_named}
use Rattle.cs_machine.specs.State.{State, begun, is_taken}
use Rattle.cs_machine.proofs.Steps.{Cases, lines-keep}

-- ---- how many pass a test
abbrev one_if : Bool → ℕ
one_if b = cond b 1 0

count_one : {X : Type 0} (b : Bool) (x : X) (xs : List X)
    → length (cond b (x ∷ xs) xs) ≡ one_if b + length xs
count_one true x xs = omega arith
count_one false x xs = omega arith

abbrev passing : {X : Type 0} → (X → Bool) → List X → ℕ
passing p xs = length (filter p xs)

with_one : {X : Type 0} (p : X → Bool) (xs : List X) (y : X)
    → passing p (xs ++ y ∷ []) ≡ passing p xs + one_if (p y)
with_one p [] y = count_one (p y) y [] ∙ omega arith
with_one p (x ∷ xs) y =
    let one = count_one (p x) x (filter p (xs ++ y ∷ [])) in
    let rest = with_one p xs y in
    let all = count_one (p x) x (filter p xs) in
    one ∙ omega (arith, rest, all)

none_passes : {X : Type 0} (p : X → Bool) (xs : List X) → list_any p xs ≡ false
    → passing p xs ≡ 0
none_passes p [] h = refl
none_passes p (x ∷ xs) h =
    let one = count_one (p x) x (filter p xs) in
    let fails : one_if (p x) ≡ 0 = ap one_if (or-left (p x) (list_any p xs) h) in
    let rest = none_passes p xs (or-right (p x) (list_any p xs) h) in
    one ∙ omega (arith, fails, rest)

kept_one : {X : Type 0} (p : X → Bool) (b : Bool) (x : X) (ys xs : List X)
    → passing p ys ≤ passing p xs → passing p (cond b (x ∷ ys) ys) ≤ passing p (x ∷ xs)
kept_one p true x ys xs h =
    let one = count_one (p x) x (filter p ys) in
    let other = count_one (p x) x (filter p xs) in
    rw (one, other) (omega (arith, h))
kept_one p false x ys xs h =
    let other = count_one (p x) x (filter p xs) in
    rw other (omega (arith, h))

fewer : {X : Type 0} (p q : X → Bool) (xs : List X) → passing p (filter q xs) ≤ passing p xs
fewer p q [] = omega arith
fewer p q (x ∷ xs) = kept_one p (q x) x (filter q xs) xs (fewer p q xs)

left_one : (p : LiveQuery → Bool) (b : Bool) (e : LiveQuery) (es fs : List LiveQuery)
    → passing p fs ≤ passing p es → passing p (cond b es (e ∷ fs)) ≤ passing p (e ∷ es)
left_one p true e es fs h =
    let other = count_one (p e) e (filter p es) in
    rw other (omega arith)
left_one p false e es fs h = kept_one p true e fs es h

fewer_without : (p : LiveQuery → Bool) (name : List ℕ) (es : List LiveQuery)
    → passing p (without_name name es) ≤ passing p es
fewer_without p name [] = omega arith
fewer_without p name (e ∷ es) =
    left_one p (has_live_name name e) e es (without_name name es) (fewer_without p name es)

as_many : (q : List ℕ) (docs : List Tree) (es : List LiveQuery)
    → passing (has_live_name q) (all_refreshed docs es) ≡ passing (has_live_name q) es
as_many q docs [] = refl
as_many q docs (e ∷ es) =
    count_one (has_live_name q e) (refreshed docs e)
    (filter (has_live_name q) (all_refreshed docs es))
    ∙ ap (λ n. one_if (has_live_name q e) + n) (as_many q docs es)
    ∙ sym (count_one (has_live_name q e) e (filter (has_live_name q) es))

-- ---- names
-- a free name has no bearer
free_is_none : (name : List ℕ) (s : State) → is_taken name s ≡ false → bearers name s ≡ 0
free_is_none name s h =
    let lives = none_passes (has_live_name name) s.lives
    (or-left (is_named name s.lives) (list_any (has_name name) s.listeners) h) in
    let listeners = none_passes (has_name name) s.listeners
    (or-right (is_named name s.lives) (list_any (has_name name) s.listeners) h) in
    omega (arith, lives, listeners)

-- one bearer more of a name that has none
room_for : (q name : List ℕ) (f : List ℕ → ℕ) → f q ≤ 1 → f name ≡ 0
    → f q + one_if (bytes_eq q name) ≤ 1
room_for q name f h none =
    elim (bytes_eq q name) as (λ b. bytes_eq q name ≡ b → f q + one_if b ≤ 1) [
      | true ↦ λ is. let zero : f q ≡ 0 = ap f ((bytes_eq-Decides q name).0 is) ∙ none in
          omega (arith, zero)
      | false ↦ λ is. omega (arith, h)
    ] refl

abbrev AreOnce : State → Type 0
AreOnce s = (name : List ℕ) → bearers name s ≤ 1

live_once : (s : State) (l : LiveQuery) (q : List ℕ) → AreOnce s → is_taken l.name s ≡ false
    → passing (has_live_name q) (s.lives ++ l ∷ []) + passing (has_name q) s.listeners ≤ 1
live_once s l q h free =
    let more = with_one (has_live_name q) s.lives l in
    let room = room_for q l.name (λ name. bearers name s) (h q) (free_is_none l.name s free) in
    rw more (omega (arith, room))

listener_once : (s : State) (l : Listener) (q : List ℕ) → AreOnce s → is_taken l.name s ≡ false
    → passing (has_live_name q) s.lives + passing (has_name q) (s.listeners ++ l ∷ []) ≤ 1
listener_once s l q h free =
    let more = with_one (has_name q) s.listeners l in
    let room = room_for q l.name (λ name. bearers name s) (h q) (free_is_none l.name s free) in
    rw more (omega (arith, room))

stopped_once : (s : State) (name q : List ℕ) → AreOnce s
    → passing (has_live_name q) (without_name name s.lives)
    + passing (has_name q) (filter (λ l. not (has_name name l)) s.listeners) ≤ 1
stopped_once s name q h =
    let lives = fewer_without (has_live_name q) name s.lives in
    let listeners = fewer (has_name q) (λ l. not (has_name name l)) s.listeners in
    let now = h q in
    omega (arith, lives, listeners, now)

refreshed_once : (s : State) (docs : List Tree) (q : List ℕ) → AreOnce s
    → passing (has_live_name q) (all_refreshed docs s.lives) + passing (has_name q) s.listeners ≤ 1
refreshed_once s docs q h = rw (as_many q docs s.lives) (h q)

once_cases : (s : State) → AreOnce s → Cases (λ out. AreOnce out.state) s
once_cases s h = record {
  blank = h;
  refuses = λ r. h;
  refuses_transaction = λ r. h;
  installs = λ txn docs unused e q. refreshed_once s docs q h;
  finds = λ t. h;
  adds_live = λ l free room is q. live_once s l q h free;
  adds_listener = λ l free room q. listener_once s l q h free;
  stops = λ name q. stopped_once s name q h;
  sets = λ moment. h;
}

pub runs-name-once : RunsNameOnce
runs-name-once docs n lines =
    lines-keep AreOnce once_cases (begun docs) n lines (λ name. omega arith)
