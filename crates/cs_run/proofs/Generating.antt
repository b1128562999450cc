-- The lines of a generated script: how many there are, and how long they are.
use Rattle.std.proofs.Common.{◌≡◌, ◌∙◌, ap, sym, refl, subst, ℕ, zero, suc, ◌+◌, ◌*◌, ◌%◌, ◌-◌, ◌≤◌, ◌<◌, List, [], ◌∷◌, ◌++◌, map, length, Option, Some, None, Bool, true, false, cond, ◌==◌, arith}
use Rattle.std.specs.Prelude.{flat_map, slice_get, unwrap_or, take, ⊤}
use Rattle.std.specs.List.{range_with_len}
use Rattle.std.specs.Fmt.{decimal}
use Rattle.std.proofs.lemmas.Fmt.{length-decimal-le}
use Rattle.std.proofs.lemmas.List.{length-append}
use Rattle.std.proofs.lemmas.List.FromFn.{length-map-range_with_len}
use Rattle.cs_core.specs.Does.{step_state, step_replies}
use Rattle.cs_io.specs.Lines.{longest_line}
use Rattle.cs_gen.specs.Tally.{IsTally}
use Rattle.cs_gen.specs.declared.tally.Tally.{Tally}
use Rattle.cs_machine.specs.Machine.{state_after}
use Rattle.cs_machine.specs.State.{State}
use Rattle.cs_gen.specs.Generated.{generated, author, post, created_line, deleted_line, deleted_lines, count_line}
use Rattle.cs_run.proofs.Folding.{counted_replies, counted_push, state_push}

-- ---- how many
one_at_most : (b : Bool) (line : List ℕ) → length (cond b (line ∷ []) []) ≤ 1
one_at_most true line = omega arith
one_at_most false line = omega arith

deletions : (i n : ℕ) → length (flat_map deleted_lines (range_with_len i n)) ≤ n
deletions i zero = omega arith
deletions i (suc n) =
    omega (arith, length-append (deleted_lines i) (flat_map deleted_lines (range_with_len (i + 1) n)), one_at_most (i % 10 == 0) (deleted_line i), deletions (i + 1) n)

pub few_lines : (n : ℕ) → length (generated n) ≤ 2 * n + 3
few_lines n =
    let created = map created_line (range_with_len 0 n) in
    let deleted = flat_map deleted_lines (range_with_len 0 n) in
    omega (arith, length-append (created ++ deleted) (count_line ∷ []), length-append created deleted, length-map-range_with_len created_line 0 n, deletions 0 n)

-- ---- how long
abbrev IsShort : List ℕ → Type 0
IsShort line = length line ≤ 2000

-- each line is short
abbrev AreShort : List (List ℕ) → Type 0
AreShort [] = ⊤
AreShort (line ∷ lines) = IsShort line × AreShort lines

short_append : (xs ys : List (List ℕ)) → AreShort xs → AreShort ys → AreShort (xs ++ ys)
short_append [] ys h k = k
short_append (x ∷ xs) ys h k = (h.0, short_append xs ys h.1 k)

digits_short : (i : ℕ) → i ≤ 100000 → length (decimal i) ≤ 6
digits_short i h = length-decimal-le 6 i (omega arith) (omega (arith, h)) (omega (arith, h))

author_short : (i : ℕ) → i ≤ 100000 → IsShort (author i)
author_short i h = simp length-append (omega (arith, digits_short i h))

post_short : (i : ℕ) → i ≤ 100000 → IsShort (post i)
post_short i h =
    simp length-append (omega (arith, digits_short i h, digits_short (i - i % 10) (omega (arith, h)), digits_short ((7 * i) % 100) (omega arith)))

deleted_short : (i : ℕ) → i ≤ 100000 → IsShort (deleted_line i)
deleted_short i h = simp length-append (omega (arith, digits_short i h))

either : (b : Bool) (xs ys : List ℕ) → IsShort xs → IsShort ys → IsShort (cond b xs ys)
either true xs ys h k = h
either false xs ys h k = k

creations_short : (i n : ℕ) → i + n ≤ 100000 → AreShort (map created_line (range_with_len i n))
creations_short i zero h = tt
creations_short i (suc n) h =
    let low : i ≤ 100000 = omega (arith, h) in
    (either (i % 10 == 0) (author i) (post i) (author_short i low) (post_short i low), creations_short (i + 1) n (omega (arith, h)))

one_short : (b : Bool) (line : List ℕ) → IsShort line → AreShort (cond b (line ∷ []) [])
one_short true line h = (h, tt)
one_short false line h = tt

deletions_short : (i n : ℕ) → i + n ≤ 100000 → AreShort (flat_map deleted_lines (range_with_len i n))
deletions_short i zero h = tt
deletions_short i (suc n) h =
    short_append (deleted_lines i) (flat_map deleted_lines (range_with_len (i + 1) n)) (one_short (i % 10 == 0) (deleted_line i) (deleted_short i (omega (arith, h)))) (deletions_short (i + 1) n (omega (arith, h)))

all_short : (n : ℕ) → n ≤ 100000 → AreShort (generated n)
all_short n h =
    let created = map created_line (range_with_len 0 n) in
    let deleted = flat_map deleted_lines (range_with_len 0 n) in
    let low : 0 + n ≤ 100000 = omega (arith, h) in
    (omega arith, (omega arith, short_append (created ++ deleted) (count_line ∷ []) (short_append created deleted (creations_short 0 n low) (deletions_short 0 n low)) (omega arith, tt)))

at_place : (lines : List (List ℕ)) (k : ℕ) (line : List ℕ) → AreShort lines → slice_get lines k ≡ Some line → length line ≤ longest_line
at_place [] k line h e = cc
at_place (x ∷ lines) zero line h e =
    let same : x ≡ line = ap (λ o. unwrap_or o x) e in
    let short : IsShort line = subst IsShort same h.0 in
    omega (arith, short)
at_place (x ∷ lines) (suc k) line h e = at_place lines k line h.1 e

pub short_line : (n k : ℕ) (line : List ℕ) → n ≤ 100000 → slice_get (generated n) k ≡ Some line → length line ≤ longest_line
short_line n k line h e = at_place (generated n) k line (all_short n h) e

-- ---- a line more
pub record Line (k : ℕ) (lines : List (List ℕ)) (line : List ℕ) : Type 0 where
  pub within : k < length lines
  pub taken : take (k + 1) lines ≡ take k lines ++ line ∷ []
  pub front : length (take k lines) ≡ k

pub line_at : (k : ℕ) (lines : List (List ℕ)) (line : List ℕ) → slice_get lines k ≡ Some line → Line k lines line
line_at k [] line e = cc
line_at zero (x ∷ lines) line e = record { within = omega arith; taken = ap (λ o. unwrap_or o x ∷ []) e; front = refl }
line_at (suc k) (x ∷ lines) line e =
    let rest = line_at k lines line e in
    let one : suc k + 1 ≡ suc (k + 1) = omega arith in
    record { within = omega (arith, rest.within); taken = ap (λ m. take m (x ∷ lines)) one ∙ ap (λ v. x ∷ v) rest.taken; front = ap suc rest.front }

-- the state, and the replies, after a line more
module _ (s0 : State) (k : ℕ) (lines : List (List ℕ)) (line : List ℕ) (s : State) (there : slice_get lines k ≡ Some line) (was : s ≡ state_after s0 1 (take k lines)) where
  number_is : k + 1 ≡ 1 + length (take k lines)
  number_is = omega (arith, (line_at k lines line there).front)

  pub state_more : (s' : State) → s' ≡ step_state s (k + 1) line → s' ≡ state_after s0 1 (take (k + 1) lines)
  state_more s' is =
      is ∙ ap (λ v. step_state v (k + 1) line) was
      ∙ ap (λ m. step_state (state_after s0 1 (take k lines)) m line) number_is
      ∙ sym (state_push s0 1 (take k lines) line)
      ∙ ap (λ v. state_after s0 1 v) (sym (line_at k lines line there).taken)

  pub tally_more : (t : Tally) → IsTally t (counted_replies s0 1 (take k lines) ++ step_replies s (k + 1) line) → IsTally t (counted_replies s0 1 (take (k + 1) lines))
  tally_more t is =
      let front = counted_replies s0 1 (take k lines) in
      let all = ap (λ v. front ++ step_replies v (k + 1) line) was
      ∙ ap (λ m. front ++ step_replies (state_after s0 1 (take k lines)) m line) number_is
      ∙ sym (counted_push s0 1 (take k lines) line)
      ∙ ap (λ v. counted_replies s0 1 v) (sym (line_at k lines line there).taken) in
      subst (IsTally t) all is

-- no line stands there: those before are all
pub past_end : (k : ℕ) (lines : List (List ℕ)) → slice_get lines k ≡ None → length lines ≤ k
past_end k [] e = omega arith
past_end zero (x ∷ lines) e = cc
past_end (suc k) (x ∷ lines) e = omega (arith, past_end k lines e)

pub none_of : {X : Type 0} (o : Option X) → ((x : X) → o ≡ Some x → ⊥) → o ≡ None
none_of None h = refl
none_of (Some x) h = absurd (h x refl)
