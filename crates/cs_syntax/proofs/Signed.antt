-- The longest sign at the front of a text.
use Rattle.std.proofs.Common.{◌≡◌, ℕ, zero, suc, ◌<◌, ◌≤◌, List, [], ◌∷◌, length, take, get_or, map, Bool, true, false, cond, Some, option_map, is_some, refl, sym, ap, ◌∙◌, arith, inl, inr, ◌⊎◌, bytes_eq, nat_cmp}
use Rattle.std.specs.Prelude.{◌==◌, ◌&&◌, ◌||◌}
use Rattle.std.specs.List.{list_any, list_all}
use Rattle.std.specs.Ordering.{is_eq}
use Rattle.std.specs.Cmp.Lexicographic.{slice_cmp}
use Rattle.std.proofs.lemmas.Map.Text.{is_eq-slice_cmp}
use Rattle.std.proofs.lemmas.Slice.Eq.{bytes_eq-Decides}
use Rattle.std.proofs.lemmas.Bool.{cases_lt, true≢false, or_cases, and_parts}
use Rattle.std.proofs.Math.Bool.{and-false, and-true, or-false}
use Rattle.cs_table.specs.Row.{row_of}
use Rattle.cs_syntax.specs.declared.sign.Sign.{Sign}
use Rattle.cs_syntax.specs.Signs.{signs, sign_of}
use Rattle.cs_syntax.specs.Ends.{is_one, is_two, is_three, sign_len}
use Rattle.cs_syntax.proofs.Fronts.{Longest}

rows-any : (rows : List (List ℕ × Sign)) (s : List ℕ) →
    is_some (option_map (λ (r : List ℕ × Sign). r.1) (row_of (λ (r : List ℕ × Sign). r.0) s rows))
    ≡ list_any (λ x. bytes_eq x s) (map (λ (r : List ℕ × Sign). r.0) rows)
rows-any [] s = refl
rows-any (r ∷ rows) s =
    by_name (is_eq (slice_cmp nat_cmp r.0 s)) (is_eq-slice_cmp r.0 s) (rows-any rows s)
  where
    by_name : (t : Bool) → t ≡ bytes_eq r.0 s →
        is_some (option_map (λ (x : List ℕ × Sign). x.1)
        (row_of (λ (x : List ℕ × Sign). x.0) s rows))
        ≡ list_any (λ x. bytes_eq x s) (map (λ (x : List ℕ × Sign). x.0) rows)
        → is_some (option_map (λ (x : List ℕ × Sign). x.1)
        (cond t (Some r) (row_of (λ (x : List ℕ × Sign). x.0) s rows)))
        ≡ (bytes_eq r.0 s
        || list_any (λ x. bytes_eq x s) (map (λ (x : List ℕ × Sign). x.0) rows))
    by_name true is h =
        ap (λ b. b || list_any (λ x. bytes_eq x s) (map (λ (x : List ℕ × Sign). x.0) rows)) is
    by_name false is h =
        h ∙ ap (λ b. b || list_any (λ x. bytes_eq x s) (map (λ (x : List ℕ × Sign). x.0) rows)) is

pub and-assoc : (a b c : Bool) → (a && (b && c)) ≡ (a && b && c)
and-assoc true b c = refl
and-assoc false b c = refl

abbrev pub is_sign : List ℕ → Bool
is_sign s = is_some (sign_of s)

sign-one : (a : ℕ) → is_sign (a ∷ []) ≡ is_one a
sign-one a = rows-any signs (a ∷ []) ∙ simp (and-false, and-true)

sign-two : (a b : ℕ) → is_sign (a ∷ b ∷ []) ≡ is_two a b
sign-two a b = rows-any signs (a ∷ b ∷ []) ∙ simp (and-false, and-true)

sign-three : (a b c : ℕ) → is_sign (a ∷ b ∷ c ∷ []) ≡ is_three a b c
sign-three a b c =
    rows-any signs (a ∷ b ∷ c ∷ [])
    ∙ simp (and-false, and-true, or-false) (and-assoc (46 == a) (46 == b) (46 == c))

sign-more : (a b c d : ℕ) (s : List ℕ) → is_sign (a ∷ b ∷ c ∷ d ∷ s) ≡ false
sign-more a b c d s = rows-any signs (a ∷ b ∷ c ∷ d ∷ s) ∙ simp and-false

three-past : (a b : ℕ) → is_three a b 0 ≡ false
three-past a b = simp and-false

two-past : (a : ℕ) → is_two a 0 ≡ false
two-past a = simp and-false

-- which fronts of s are signs, by their lengths
record Sizes (s : List ℕ) (three two one : Bool) : Type 0 where
  at_one : is_sign (take 1 s) ≡ one
  at_two : 2 ≤ length s → is_sign (take 2 s) ≡ two
  at_three : 3 ≤ length s → is_sign (take 3 s) ≡ three
  at_more : (m : ℕ) → 3 < m → m ≤ length s → is_sign (take m s) ≡ false
  some : 1 ≤ length s
  no_two : length s < 2 → two ≡ false
  no_three : length s < 3 → three ≡ false

sizes : (a : ℕ) (t : List ℕ) →
    Sizes (a ∷ t) (is_three a (get_or t 0 0) (get_or t 1 0)) (is_two a (get_or t 0 0)) (is_one a)
sizes a [] = record {
  at_one = sign-one a;
  at_two = λ h. absurd (omega arith);
  at_three = λ h. absurd (omega arith);
  at_more = λ m h k. absurd (omega arith);
  some = omega arith;
  no_two = λ h. two-past a;
  no_three = λ h. three-past a 0;
}
sizes a (b ∷ []) = record {
  at_one = sign-one a;
  at_two = λ h. sign-two a b;
  at_three = λ h. absurd (omega arith);
  at_more = λ m h k. absurd (omega arith);
  some = omega arith;
  no_two = λ h. absurd (omega arith);
  no_three = λ h. three-past a b;
}
sizes a (b ∷ c ∷ t) = record {
  at_one = sign-one a;
  at_two = λ h. sign-two a b;
  at_three = λ h. sign-three a b c;
  at_more = more t;
  some = omega arith;
  no_two = λ h. absurd (omega arith);
  no_three = λ h. absurd (omega arith);
}
  where
    more : (t : List ℕ) (m : ℕ) → 3 < m → m ≤ length (a ∷ b ∷ c ∷ t) →
        is_sign (take m (a ∷ b ∷ c ∷ t)) ≡ false
    more [] m h k = absurd (omega arith)
    more (d ∷ t) zero h k = absurd (omega arith)
    more (d ∷ t) (suc zero) h k = absurd (omega arith)
    more (d ∷ t) (suc (suc zero)) h k = absurd (omega arith)
    more (d ∷ t) (suc (suc (suc zero))) h k = absurd (omega arith)
    more (d ∷ t) (suc (suc (suc (suc m)))) h k = sign-more a b c d (take m t)

longest : (s : List ℕ) (three two one : Bool) → Sizes s three two one →
    0 < cond three 3 (cond two 2 (cond one 1 0)) →
    Longest is_sign s (cond three 3 (cond two 2 (cond one 1 0)))
longest s true two one z h = by_length (cases_lt (length s) 3)
  where
    by_length : (length s < 3) ⊎ (3 ≤ length s) → Longest is_sign s 3
    by_length (inl l) = absurd (true≢false (z.no_three l))
    by_length (inr l) = record { within = l; passes = z.at_three l; stops = z.at_more }
longest s false true one z h = by_length (cases_lt (length s) 2)
  where
    more : (m : ℕ) → 2 < m → m ≤ length s → is_sign (take m s) ≡ false
    more zero a b = absurd (omega arith)
    more (suc zero) a b = absurd (omega arith)
    more (suc (suc zero)) a b = absurd (omega arith)
    more (suc (suc (suc zero))) a b = z.at_three b
    more (suc (suc (suc (suc m)))) a b = z.at_more (suc (suc (suc (suc m)))) (omega arith) b

    by_length : (length s < 2) ⊎ (2 ≤ length s) → Longest is_sign s 2
    by_length (inl l) = absurd (true≢false (z.no_two l))
    by_length (inr l) = record { within = l; passes = z.at_two l; stops = more }
longest s false false true z h = record { within = z.some; passes = z.at_one; stops = more }
  where
    more : (m : ℕ) → 1 < m → m ≤ length s → is_sign (take m s) ≡ false
    more zero a b = absurd (omega arith)
    more (suc zero) a b = absurd (omega arith)
    more (suc (suc zero)) a b = z.at_two b
    more (suc (suc (suc zero))) a b = z.at_three b
    more (suc (suc (suc (suc m)))) a b = z.at_more (suc (suc (suc (suc m)))) (omega arith) b
longest s false false false z h = absurd (omega arith)

none : (s : List ℕ) (three two one : Bool) → Sizes s three two one →
    ◌≡◌ {A = ℕ} (cond three 3 (cond two 2 (cond one 1 0))) 0 → (m : ℕ) → m ≤ length s →
    is_sign (take m s) ≡ false
none s true two one z h m l = absurd (omega arith)
none s false true one z h m l = absurd (omega arith)
none s false false true z h m l = absurd (omega arith)
none s false false false z h zero l = refl
none s false false false z h (suc zero) l = z.at_one
none s false false false z h (suc (suc zero)) l = z.at_two l
none s false false false z h (suc (suc (suc zero))) l = z.at_three l
none s false false false z h (suc (suc (suc (suc m)))) l =
    z.at_more (suc (suc (suc (suc m)))) (omega arith) l

pub longest-sign : (a : ℕ) (t : List ℕ) → 0 < sign_len a (get_or t 0 0) (get_or t 1 0) →
    Longest is_sign (a ∷ t) (sign_len a (get_or t 0 0) (get_or t 1 0))
longest-sign a t h = longest (a ∷ t) _ _ _ (sizes a t) h

pub no-sign : (a : ℕ) (t : List ℕ) → sign_len a (get_or t 0 0) (get_or t 1 0) ≡ 0 → (m : ℕ) →
    m ≤ length (a ∷ t) → is_sign (take m (a ∷ t)) ≡ false
no-sign a t h m l = none (a ∷ t) _ _ _ (sizes a t) h m l

abbrev names : List (List ℕ)
names = map (λ (r : List ℕ × Sign). r.0) signs

-- what each sign's bytes pass, a sign passes
pub each-sign : (p : List ℕ → Bool) → list_all p names ≡ true → (s : List ℕ) → is_sign s ≡ true →
    p s ≡ true
each-sign p all s h = among names all (sym (rows-any signs s) ∙ h)
  where
    among : (xs : List (List ℕ)) → list_all p xs ≡ true → list_any (λ x. bytes_eq x s) xs ≡ true →
        p s ≡ true
    among [] a g = absurd (true≢false (sym g))
    among (x ∷ xs) a g =
        by_first (or_cases (bytes_eq x s) (list_any (λ y. bytes_eq y s) xs) g)
        (and_parts (p x) (list_all p xs) a) (among xs)
      where
        by_first : (bytes_eq x s ≡ true) ⊎ (list_any (λ y. bytes_eq y s) xs ≡ true) →
            (p x ≡ true) × (list_all p xs ≡ true)
            → (list_all p xs ≡ true → list_any (λ y. bytes_eq y s) xs ≡ true → p s ≡ true) →
            p s ≡ true
        by_first (inl e) q ih = ap p (sym ((bytes_eq-Decides x s).0 e)) ∙ q.0
        by_first (inr e) q ih = ih q.1 e
