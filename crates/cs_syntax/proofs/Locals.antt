-- An escape is read from its own bytes alone: what follows them does not count.
use Rattle.std.proofs.Common.{◌≡◌, ℕ, zero, suc, ◌+◌, ◌-◌, ◌*◌, ◌≤◌, List, [], ◌∷◌, ◌++◌, drop, take, Bool, true, false, cond, Option, Some, None, option_map, refl, sym, ap, ◌∙◌, arith, append_assoc, take-append-drop}
use Rattle.std.specs.Prelude.{◌==◌, ◌&&◌, nat_lt, option_and_then, encode_utf8}
use Rattle.std.specs.Char.{is_digit, digit_value}
use Rattle.std.specs.Char.Utf16.{is_high_surrogate, is_low_surrogate, surrogate_pair_char}
use Rattle.std.proofs.lemmas.Option.{option_and_then_some, same_Some}
use Rattle.std.proofs.lemmas.Bool.{cond-true, cond-false}
use Rattle.std.proofs.lemmas.List.{take-take}
use lib.Utf8.{scalar}
use Rattle.cs_syntax.specs.Escapes.{letter, four_digits, unit, by_unit, braced, unicode, escape, piece}

-- a choice that gives a value
cond-some : {A : Type 0} (t : Bool) (x : Option A) (y : A) → cond t x None ≡ Some y →
    (t ≡ true) × (x ≡ Some y)
cond-some true x y h = (refl, h)
cond-some false x y h = absurd cc

four-local : (t : List ℕ) (u : ℕ) (r : List ℕ) → four_digits t ≡ Some u →
    four_digits (take 4 t ++ r) ≡ Some u
four-local [] u r h = absurd cc
four-local (a ∷ []) u r h = absurd cc
four-local (a ∷ b ∷ []) u r h = absurd cc
four-local (a ∷ b ∷ c ∷ []) u r h = absurd cc
four-local (a ∷ b ∷ c ∷ d ∷ t) u r h = h

four-rest : (t : List ℕ) (u : ℕ) (r : List ℕ) → four_digits t ≡ Some u → drop 4 (take 4 t ++ r) ≡ r
four-rest [] u r h = absurd cc
four-rest (a ∷ []) u r h = absurd cc
four-rest (a ∷ b ∷ []) u r h = absurd cc
four-rest (a ∷ b ∷ c ∷ []) u r h = absurd cc
four-rest (a ∷ b ∷ c ∷ d ∷ t) u r h = refl

unit-local : (t : List ℕ) (v : ℕ) (r : List ℕ) → unit t ≡ Some v → unit (take 6 t ++ r) ≡ Some v
unit-local [] v r h = absurd cc
unit-local (a ∷ []) v r h = absurd cc
unit-local (a ∷ b ∷ t) v r h =
    let p = cond-some (a == 92 && b == 117) (four_digits t) v h in
    rw p.0 (four-local t v r p.1)

abbrev pair_of : ℕ → ℕ → Option (ℕ × ℕ)
pair_of u v = cond (is_low_surrogate v) (Some (surrogate_pair_char u v, 11)) None

second_part : (x y : ℕ × ℕ) → ◌≡◌ {A = Option (ℕ × ℕ)} (Some x) (Some y) → x ≡ y
second_part x y h = cc

-- how many bytes of an escape stand behind its `\`, and that what follows these does not count
by_unit-local : (u : ℕ) (t : List ℕ) (e : ℕ × ℕ) (r : List ℕ) → by_unit u t ≡ Some e →
    (5 ≤ e.1) × (by_unit u (take (e.1 - 5) t ++ r) ≡ Some e)
by_unit-local u t e r h = by_high (is_high_surrogate u) refl h
  where
    by_low : (l : Bool) → cond l None (Some (u, 5)) ≡ Some e → 5 ≤ e.1
    by_low true k = absurd cc
    by_low false k = let n : 5 ≡ e.1 = ap (λ (x : ℕ × ℕ). x.1) (second_part (u, 5) e k) in
        omega arith

    by_pair : (v : ℕ) → unit t ≡ Some v → pair_of u v ≡ Some e →
        (5 ≤ e.1) × (option_and_then (pair_of u) (unit (take (e.1 - 5) t ++ r)) ≡ Some e)
    by_pair v is k =
        let p = cond-some (is_low_surrogate v) (Some (surrogate_pair_char u v, 11)) e k in
        let n : 11 ≡ e.1 =
        ap (λ (x : ℕ × ℕ). x.1) (second_part (surrogate_pair_char u v, 11) e p.1) in
        let six : e.1 - 5 ≡ 6 = omega arith in (
          omega arith,
          ap (λ m. option_and_then (pair_of u) (unit (take m t ++ r))) six
              ∙ ap (option_and_then (pair_of u)) (unit-local t v r is) ∙ k,
        )

    by_high : (g : Bool) → is_high_surrogate u ≡ g →
        cond g (option_and_then (pair_of u) (unit t))
        (cond (is_low_surrogate u) None (Some (u, 5))) ≡ Some e →
        (5 ≤ e.1) × (by_unit u (take (e.1 - 5) t ++ r) ≡ Some e)
    by_high true is k =
        let x = option_and_then_some (pair_of u) (unit t) e k by_pair in
        (x.0, rw is x.1)
    by_high false is k = (by_low (is_low_surrogate u) k, rw is k)

-- `\u{H}`
braced-least : (n d : ℕ) (t : List ℕ) (e : ℕ × ℕ) → braced n d t ≡ Some e → d + 3 ≤ e.1
braced-least n d [] e h = absurd cc
braced-least n d (b ∷ t) e h =
    by_close (b == 125) h (λ k. braced-least (n * 16 + digit_value b) (d + 1) t e k)
  where
    by_close : (c : Bool) →
        cond c (cond (nat_lt 0 d && scalar n) (Some (n, d + 3)) None) (cond (is_digit b 16
        && nat_lt d 6) (braced (n * 16 + digit_value b) (d + 1) t) None) ≡ Some e
        → (braced (n * 16 + digit_value b) (d + 1) t ≡ Some e → d + 1 + 3 ≤ e.1) → d + 3 ≤ e.1
    by_close true k ih =
        let p = cond-some (nat_lt 0 d && scalar n) (Some (n, d + 3)) e k in
        let m : d + 3 ≡ e.1 = ap (λ (x : ℕ × ℕ). x.1) (second_part (n, d + 3) e p.1) in
        omega arith
    by_close false k ih =
        let p = cond-some (is_digit b 16
        && nat_lt d 6) (braced (n * 16 + digit_value b) (d + 1) t) e k in
        let m = ih p.1 in
        omega (arith, m)

braced-local : (n d : ℕ) (t : List ℕ) (e : ℕ × ℕ) (k : ℕ) (r : List ℕ) → braced n d t ≡ Some e →
    k + d + 2 ≡ e.1 → braced n d (take k t ++ r) ≡ Some e
braced-local n d [] e k r h is = absurd cc
braced-local n d (b ∷ t) e zero r h is = let m = braced-least n d (b ∷ t) e h in
    absurd (omega (arith, m))
braced-local n d (b ∷ t) e (suc k) r h is =
    by_close (b == 125) h (λ k1. braced-local (n * 16 + digit_value b) (d + 1) t e k r k1
    (omega arith))
  where
    by_close : (c : Bool) →
        cond c (cond (nat_lt 0 d && scalar n) (Some (n, d + 3)) None) (cond (is_digit b 16
        && nat_lt d 6) (braced (n * 16 + digit_value b) (d + 1) t) None) ≡ Some e
        → (braced (n * 16 + digit_value b) (d + 1) t ≡ Some e →
        braced (n * 16 + digit_value b) (d + 1) (take k t ++ r) ≡ Some e)
        → cond c (cond (nat_lt 0 d && scalar n) (Some (n, d + 3)) None) (cond (is_digit b 16
        && nat_lt d 6) (braced (n * 16 + digit_value b) (d + 1) (take k t ++ r)) None) ≡ Some e
    by_close true q ih = q
    by_close false q ih =
        let p = cond-some (is_digit b 16
        && nat_lt d 6) (braced (n * 16 + digit_value b) (d + 1) t) e q in
        cond-true _ _ _ p.0 ∙ ih p.1

-- some more bytes than four, in two parts
take-four : (j : ℕ) (t r : List ℕ) → take (4 + j) t ++ r ≡ take 4 t ++ (take j (drop 4 t) ++ r)
take-four j t r = ap (λ (x : List ℕ). x ++ r) (take-add 4 j t)
    ∙ append_assoc (take 4 t) (take j (drop 4 t)) r
  where
    take-add : (i k : ℕ) (xs : List ℕ) → take (i + k) xs ≡ take i xs ++ take k (drop i xs)
    take-add zero k xs = let e : zero + k ≡ k = omega arith in ap (λ n. take n xs) e
    take-add (suc i) k [] = let e : suc i + k ≡ suc (i + k) = omega arith in
        ap (λ n. take n []) e ∙ sym (none k)
      where
        none : (n : ℕ) → take {A = ℕ} n [] ≡ []
        none zero = refl
        none (suc n) = refl
    take-add (suc i) k (x ∷ xs) = let e : suc i + k ≡ suc (i + k) = omega arith in
        ap (λ n. take n (x ∷ xs)) e ∙ ap (λ (ys : List ℕ). x ∷ ys) (take-add i k xs)

unicode-least : (t : List ℕ) (e : ℕ × ℕ) → unicode t ≡ Some e → 3 ≤ e.1
unicode-least [] e h = absurd cc
unicode-least (b ∷ t) e h = by_brace (b == 123) h
  where
    by_brace : (c : Bool) →
        cond c (braced 0 0 t)
        (option_and_then (λ u. by_unit u (drop 4 (b ∷ t))) (four_digits (b ∷ t))) ≡ Some e →
        3 ≤ e.1
    by_brace true k = let m = braced-least 0 0 t e k in omega (arith, m)
    by_brace false k =
        option_and_then_some (λ u. by_unit u (drop 4 (b ∷ t))) (four_digits (b ∷ t)) e k
        (λ u is k1. let m = (by_unit-local u (drop 4 (b ∷ t)) e [] k1).0 in omega (arith, m))

unicode-local : (t : List ℕ) (e : ℕ × ℕ) (k : ℕ) (r : List ℕ) → unicode t ≡ Some e → k + 1 ≡ e.1 →
    unicode (take k t ++ r) ≡ Some e
unicode-local [] e k r h is = absurd cc
unicode-local (b ∷ t) e k r h is = by_brace (b == 123) refl h
  where
    in_braces : (k : ℕ) → k + 1 ≡ e.1 → (b == 123) ≡ true → braced 0 0 t ≡ Some e →
        unicode (take k (b ∷ t) ++ r) ≡ Some e
    in_braces zero m c g = let l = braced-least 0 0 t e g in absurd (omega (arith, l))
    in_braces (suc j) m c g = cond-true _ _ _ c ∙ braced-local 0 0 t e j r g (omega arith)

    in_units : (b == 123) ≡ false → (u : ℕ) → four_digits (b ∷ t) ≡ Some u →
        by_unit u (drop 4 (b ∷ t)) ≡ Some e → unicode (take k (b ∷ t) ++ r) ≡ Some e
    in_units c u four g =
        let own = by_unit-local u (drop 4 (b ∷ t)) e r g in
        let more = take (e.1 - 5) (drop 4 (b ∷ t)) ++ r in
        let size : k ≡ 4 + (e.1 - 5) = omega (arith, own.0) in
        ap (λ (n : ℕ). unicode (take n (b ∷ t) ++ r)) size
        ∙ ap unicode (take-four (e.1 - 5) (b ∷ t) r)
        ∙ cond-false _ _ _ c
        ∙ (λ i. option_and_then (λ v. by_unit v (four-rest (b ∷ t) u more four i))
        (four-local (b ∷ t) u more four i))
        ∙ own.1

    by_brace : (c : Bool) → (b == 123) ≡ c →
        cond c (braced 0 0 t)
        (option_and_then (λ u. by_unit u (drop 4 (b ∷ t))) (four_digits (b ∷ t))) ≡ Some e →
        unicode (take k (b ∷ t) ++ r) ≡ Some e
    by_brace true c g = in_braces k is c g
    by_brace false c g =
        option_and_then_some (λ u. by_unit u (drop 4 (b ∷ t))) (four_digits (b ∷ t)) e g
        (in_units c)

escape-local : (t : List ℕ) (e : ℕ × ℕ) (r : List ℕ) → escape t ≡ Some e →
    escape (take e.1 t ++ r) ≡ Some e
escape-local [] e r h = absurd cc
escape-local (b ∷ t) e r h = by_letter (b == 117) refl h
  where
    of_letter : (o : Option ℕ) → option_map (λ c. (c, 1)) o ≡ Some e → e.1 ≡ 1
    of_letter None g = absurd cc
    of_letter (Some c) g = sym (ap (λ (x : ℕ × ℕ). x.1) (second_part (c, 1) e g))

    by_letter : (c : Bool) → (b == 117) ≡ c →
        cond c (unicode t) (option_map (λ c. (c, 1)) (letter b)) ≡ Some e →
        escape (take e.1 (b ∷ t) ++ r) ≡ Some e
    by_letter true c g =
        let m = unicode-least t e g in
        let size : e.1 ≡ suc (e.1 - 1) = omega (arith, m) in
        ap (λ (n : ℕ). escape (take n (b ∷ t) ++ r)) size ∙ cond-true _ _ _ c
        ∙ unicode-local t e (e.1 - 1) r g (omega (arith, m))
    by_letter false c g =
        ap (λ (n : ℕ). escape (take n (b ∷ t) ++ r)) (of_letter (letter b) g) ∙ cond-false _ _ _ c
        ∙ g

piece-local : (b : ℕ) (t : List ℕ) (p : List ℕ × ℕ) (r : List ℕ) → piece b t ≡ Some p →
    piece b (take p.1 t ++ r) ≡ Some p
piece-local b t p r h = by_escape (b == 92) refl h
  where
    of_escape : (o : Option (ℕ × ℕ)) → escape t ≡ o →
        option_map (λ (e : ℕ × ℕ). (encode_utf8 e.0, e.1)) o ≡ Some p →
        option_map (λ (e : ℕ × ℕ). (encode_utf8 e.0, e.1)) (escape (take p.1 t ++ r)) ≡ Some p
    of_escape None is g = absurd cc
    of_escape (Some e) is g =
        let own : (encode_utf8 e.0, e.1) ≡ p = same_Some _ _ g in
        let size : p.1 ≡ e.1 = sym (ap (λ (x : List ℕ × ℕ). x.1) own) in
        ap (λ (n : ℕ). option_map (λ (x : ℕ × ℕ). (encode_utf8 x.0, x.1)) (escape (take n t
        ++ r))) size
        ∙ ap (option_map (λ (x : ℕ × ℕ). (encode_utf8 x.0, x.1))) (escape-local t e r is) ∙ g

    by_escape : (c : Bool) → (b == 92) ≡ c →
        cond c (option_map (λ (e : ℕ × ℕ). (encode_utf8 e.0, e.1)) (escape t)) (Some (b ∷ [], 0))
        ≡ Some p → piece b (take p.1 t ++ r) ≡ Some p
    by_escape true c g = cond-true _ _ _ c ∙ of_escape (escape t) refl g
    by_escape false c g = cond-false _ _ _ c ∙ g

-- the same byte or escape is read where more follows, and where the text is cut behind it
pub piece-more : (b : ℕ) (t : List ℕ) (p : List ℕ × ℕ) (r : List ℕ) → piece b t ≡ Some p →
    piece b (t ++ r) ≡ Some p
piece-more b t p r h =
    ap (piece b) (ap (λ (x : List ℕ). x ++ r) (sym (take-append-drop p.1 t))
    ∙ append_assoc (take p.1 t) (drop p.1 t) r) ∙ piece-local b t p (drop p.1 t ++ r) h

pub piece-cut : (b : ℕ) (t : List ℕ) (p : List ℕ × ℕ) (n : ℕ) → piece b t ≡ Some p → p.1 ≤ n →
    piece b (take n t) ≡ Some p
piece-cut b t p n h l =
    ap (piece b) (sym (take-append-drop p.1 (take n t))
    ∙ ap (λ (x : List ℕ). x ++ drop p.1 (take n t)) (take-take p.1 n t l))
    ∙ piece-local b t p (drop p.1 (take n t)) h
