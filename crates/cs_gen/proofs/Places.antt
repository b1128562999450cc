-- Where the lines of the generated script stand.
use Rattle.std.proofs.Common.{◌≡◌, ℕ, zero, suc, ◌+◌, ◌-◌, ◌*◌, ◌/◌, ◌%◌, ◌<◌, ◌≤◌, List, [], ◌∷◌, ◌++◌, map, length, refl, sym, ap, ◌∙◌, arith, Some, None, cond, false}
use Rattle.std.specs.Prelude.{flat_map, option_map, slice_get, ◌==◌}
use Rattle.std.specs.List.{range_with_len}
use Rattle.std.proofs.lemmas.List.{length-append}
use Rattle.std.proofs.lemmas.List.FromFn.{length-map-range_with_len}
use Rattle.std.proofs.lemmas.Option.{slice_get-map, slice_get_past}
use Rattle.cs_gen.specs.Generated.{generated, created_line, deleted_line, deleted_lines, count_line}

left : {A : Type 0} (xs ys : List A) (k : ℕ) → k < length xs → slice_get (xs ++ ys) k ≡ slice_get
    xs k
left [] ys k h = absurd (omega arith)
left (x ∷ xs) ys zero h = refl
left (x ∷ xs) ys (suc k) h = left xs ys k (omega arith)

right : {A : Type 0} (xs ys : List A) (k : ℕ) → length xs ≤ k → slice_get (xs ++ ys) k
    ≡ slice_get ys (k - length xs)
right [] ys k h = ap (slice_get ys) (omega arith)
right (x ∷ xs) ys zero h = absurd (omega arith)
right (x ∷ xs) ys (suc k) h = right xs ys k (omega arith) ∙ ap (slice_get ys) (omega arith)

in-range : (a n k : ℕ) → k < n → slice_get (range_with_len a n) k ≡ Some (a + k)
in-range a zero k h = absurd (omega arith)
in-range a (suc n) zero h = ap Some (omega arith)
in-range a (suc n) (suc k) h = in-range (a + 1) n k (omega arith) ∙ ap Some (omega arith)

-- an author is deleted, and no other
author : (i : ℕ) → i % 10 ≡ 0 → deleted_lines i ≡ deleted_line i ∷ []
author i e = ap (λ m. cond (m == 0) (deleted_line i ∷ []) []) e

no-author : (i m : ℕ) → i % 10 ≡ suc m → deleted_lines i ≡ []
no-author i m e =
    let other : (i % 10 == 0) ≡ false = grind (arith, e) in
    ap (λ b. cond b (deleted_line i ∷ []) []) other

abbrev deleted-of : ℕ → ℕ → List (List ℕ)
deleted-of i n = flat_map deleted_lines (range_with_len i n)

-- how many authors there are from a number on, among so many
authors : (n i : ℕ) → length (deleted-of i n) ≡ (i + n + 9) / 10 - (i + 9) / 10
authors zero i = omega arith
authors (suc n) i = more (i % 10) refl (authors n (i + 1))
  where
    more : (m : ℕ) → i % 10 ≡ m
        → length (deleted-of (i + 1) n) ≡ (i + 1 + n + 9) / 10 - (i + 1 + 9) / 10
        → length (deleted_lines i ++ deleted-of (i + 1) n) ≡ (i + suc n + 9) / 10 - (i + 9) / 10
    more zero e rest = rw (author i e) (omega (arith, rest, e))
    more (suc m) e rest = rw (no-author i m e) (omega (arith, rest, e))

-- which author is deleted at a place
deleted-there : (n i k : ℕ) → ((i + 9) / 10 + k) * 10 < i + n → slice_get (deleted-of i n) k
    ≡ Some (deleted_line (((i + 9) / 10 + k) * 10))
deleted-there zero i k h = absurd (omega arith)
deleted-there (suc n) i k h = more (i % 10) k refl h (deleted-there n (i + 1))
  where
    more : (m k : ℕ) → i % 10 ≡ m → ((i + 9) / 10 + k) * 10 < i + suc n
        → ((j : ℕ) → ((i + 1 + 9) / 10 + j) * 10 < i + 1 + n → slice_get (deleted-of (i + 1) n) j
        ≡ Some (deleted_line (((i + 1 + 9) / 10 + j) * 10)))
        → slice_get (deleted_lines i ++ deleted-of (i + 1) n) k
        ≡ Some (deleted_line (((i + 9) / 10 + k) * 10))
    more zero zero e h rest = rw (author i e) (ap (λ j. Some (deleted_line j)) (omega (arith, e)))
    more zero (suc k) e h rest = rw (author i e) (rest k (omega (arith, e))
        ∙ ap (λ j. Some (deleted_line j)) (omega (arith, e)))
    more (suc m) k e h rest = rw (no-author i m e) (rest k (omega (arith, e))
        ∙ ap (λ j. Some (deleted_line j)) (omega (arith, e)))

abbrev created-of : ℕ → List (List ℕ)
created-of n = map created_line (range_with_len 0 n)

behind-two : (n number : ℕ) → 3 ≤ number → slice_get (generated n) (number - 1)
    ≡ slice_get (created-of n ++ deleted-of 0 n ++ count_line ∷ []) (number - 3)
behind-two n number h =
    let e : number - 1 ≡ suc (suc (number - 3)) = omega arith in
    ap (slice_get (generated n)) e

made : (n : ℕ) → length (created-of n) ≡ n
made n = length-map-range_with_len created_line 0 n

both-long : (n : ℕ) → length (created-of n ++ deleted-of 0 n) ≡ n + (n + 9) / 10
both-long n = omega (arith, length-append (created-of n) (deleted-of 0 n), made n, authors n 0)

pub created_at : (n number : ℕ) → 3 ≤ number → number - 3 < n → Some (created_line (number - 3))
    ≡ slice_get (generated n) (number - 1)
created_at n number h lt =
    let k = number - 3 in
    sym (behind-two n number h
    ∙ (left (created-of n ++ deleted-of 0 n) (count_line ∷ []) k (omega (arith, both-long n))
    ∙ (left (created-of n) (deleted-of 0 n) k (omega (arith, made n))
    ∙ (slice_get-map created_line (range_with_len 0 n) k
    ∙ (ap (option_map created_line) (in-range 0 n k lt)
    ∙ ap (λ (j : ℕ). Some (created_line j)) (omega arith))))))

pub deleted_at : (n number : ℕ) → 3 ≤ number → n ≤ number - 3 → number - 3 - n < (n + 9) / 10
    → Some (deleted_line ((number - 3 - n) * 10)) ≡ slice_get (generated n) (number - 1)
deleted_at n number h past lt =
    let k = number - 3 in
    sym (behind-two n number h
    ∙ (left (created-of n ++ deleted-of 0 n) (count_line ∷ []) k (omega (arith, both-long n))
    ∙ (right (created-of n) (deleted-of 0 n) k (omega (arith, made n))
    ∙ (ap (slice_get (deleted-of 0 n)) (omega (arith, made n))
    ∙ (deleted-there n 0 (k - n) (omega arith)
    ∙ ap (λ j. Some (deleted_line j)) (omega arith))))))

pub count_at : (n number : ℕ) → 3 ≤ number → n ≤ number - 3 → number - 3 - n ≡ (n + 9) / 10
    → Some count_line ≡ slice_get (generated n) (number - 1)
count_at n number h past e =
    let k = number - 3 in
    let none : k - length (created-of n ++ deleted-of 0 n) ≡ 0 = omega (arith, both-long n) in
    sym (behind-two n number h
    ∙ (right (created-of n ++ deleted-of 0 n) (count_line ∷ []) k (omega (arith, both-long n))
    ∙ ap (slice_get (count_line ∷ [])) none))

pub none_at : (n number : ℕ) → 3 ≤ number → n ≤ number - 3 → (n + 9) / 10 < number - 3 - n
    → None ≡ slice_get (generated n) (number - 1)
none_at n number h past lt =
    let k = number - 3 in
    let long : length (created-of n ++ deleted-of 0 n ++ count_line ∷ []) ≤ k =
    omega (arith, length-append (created-of n ++ deleted-of 0 n) (count_line ∷ []), both-long n)
    in
    sym (behind-two n number h
    ∙ slice_get_past (created-of n ++ deleted-of 0 n ++ count_line ∷ []) k long)
