-- What is read at a place of a text is what the definitions read from there on.
use Rattle.std.proofs.Common.{◌≡◌, ℕ, ◌+◌, ◌*◌, List, [], ◌∷◌, drop, get_or, Bool, true, false, cond, Option, Some, None, option_map, refl, ap, ◌∙◌, arith, rules, get_or-drop}
use Rattle.std.specs.Prelude.{◌==◌, ◌&&◌, option_and_then}
use Rattle.std.specs.Char.{is_digit, digit_value}
use Rattle.std.specs.Char.Utf16.{is_high_surrogate, is_low_surrogate, surrogate_pair_char}
use Rattle.std.proofs.lemmas.List.{drop-drop}
use Rattle.std.proofs.lemmas.Bool.{and_right}
use Rattle.cs_syntax.specs.Escapes.{letter, four_digits, unit, by_unit, braced, unicode, escape}
use Rattle.cs_syntax.specs.Ends.{placed, four_at, unit_at, by_unit_at, unicode_at, escape_at}

-- the byte at a place behind `at`
pub byte-behind : (s : List ℕ) (at k : ℕ) → get_or (drop at s) k 0 ≡ get_or s (at + k) 0
byte-behind s at k = get_or-drop at s k 0

pub first-behind : (s : List ℕ) (at : ℕ) → get_or (drop at s) 0 0 ≡ get_or s at 0
first-behind s at = byte-behind s at 0 ∙ ap (λ i. get_or s i 0) (omega arith)

abbrev four_of : ℕ → ℕ → ℕ → ℕ → Option ℕ
four_of a b c d = cond (is_digit a 16 && is_digit b 16 && is_digit c 16 && is_digit d 16)
    (Some (digit_value a * 4096 + digit_value b * 256 + digit_value c * 16 + digit_value d)) None

none-when : {A : Type 0} (t : Bool) (x : Option A) → t ≡ false → None ≡ cond t x None
none-when false x h = refl
none-when true x h = absurd cc

four-bytes : (t : List ℕ) →
    four_digits t ≡ four_of (get_or t 0 0) (get_or t 1 0) (get_or t 2 0) (get_or t 3 0)
four-bytes [] = refl
four-bytes (a ∷ []) = search (none-when, and_right, rules)
four-bytes (a ∷ b ∷ []) = search (none-when, and_right, rules)
four-bytes (a ∷ b ∷ c ∷ []) = search (none-when, and_right, rules)
four-bytes (a ∷ b ∷ c ∷ d ∷ t) = refl

four-is : (s : List ℕ) (at : ℕ) → four_digits (drop at s) ≡ four_at s at
four-is s at =
    four-bytes (drop at s)
    ∙ (λ i. four_of (first-behind s at i) (byte-behind s at 1 i) (byte-behind s at 2 i)
    (byte-behind s at 3 i))

unit-bytes : (t : List ℕ) →
    unit t ≡ cond (get_or t 0 0 == 92 && get_or t 1 0 == 117) (four_digits (drop 2 t)) None
unit-bytes [] = refl
unit-bytes (a ∷ []) = search (none-when, and_right, rules)
unit-bytes (a ∷ b ∷ t) = refl

unit-is : (s : List ℕ) (at : ℕ) → unit (drop at s) ≡ unit_at s at
unit-is s at = unit-bytes (drop at s)
    ∙ (λ i. cond (first-behind s at i == 92
    && byte-behind s at 1 i == 117) ((ap four_digits (drop-drop 2 at s)
    ∙ four-is s (at + 2)) i) None)

placed-cond : (at : ℕ) (t : Bool) (x y : Option (ℕ × ℕ)) →
    placed at (cond t x y) ≡ cond t (placed at x) (placed at y)
placed-cond at true x y = refl
placed-cond at false x y = refl

placed-then : (at : ℕ) (f : ℕ → Option (ℕ × ℕ)) (o : Option ℕ) →
    placed at (option_and_then f o) ≡ option_and_then (λ u. placed at (f u)) o
placed-then at f None = refl
placed-then at f (Some u) = refl

then-same : (f g : ℕ → Option (ℕ × ℕ)) (o : Option ℕ) → ((u : ℕ) → f u ≡ g u) →
    option_and_then f o ≡ option_and_then g o
then-same f g None h = refl
then-same f g (Some u) h = h u

pair-is : (at u v : ℕ) →
    placed at (cond (is_low_surrogate v) (Some (surrogate_pair_char u v, 11)) None)
    ≡ cond (is_low_surrogate v) (Some (surrogate_pair_char u v, at + 5 + 6)) None
pair-is at u v =
    let sum : at + 11 ≡ at + 5 + 6 = omega arith in
    placed-cond at (is_low_surrogate v) (Some (surrogate_pair_char u v, 11)) None
    ∙ ap (λ (n : ℕ). cond (is_low_surrogate v) (Some (surrogate_pair_char u v, n)) None) sum

by_unit-is : (s : List ℕ) (at u : ℕ) →
    placed at (by_unit u (drop (at + 5) s)) ≡ by_unit_at s (at + 5) u
by_unit-is s at u =
    placed-cond at (is_high_surrogate u) _ _
    ∙ (λ i. cond (is_high_surrogate u)
    ((placed-then at (λ v. cond (is_low_surrogate v) (Some (surrogate_pair_char u v, 11)) None)
    (unit (drop (at + 5) s))
    ∙ then-same _ (λ v. cond (is_low_surrogate v) (Some (surrogate_pair_char u v, at + 5 + 6))
    None) (unit (drop (at + 5) s)) (pair-is at u)
    ∙ ap (option_and_then
    (λ v. cond (is_low_surrogate v) (Some (surrogate_pair_char u v, at + 5 + 6)) None))
    (unit-is s (at + 5))) i)
    (placed-cond at (is_low_surrogate u) None (Some (u, 5)) i))

unicode-bytes : (t : List ℕ) →
    unicode t ≡ cond (get_or t 0 0 == 123) (braced 0 0 (drop 1 t))
    (option_and_then (λ u. by_unit u (drop 4 t)) (four_digits t))
unicode-bytes [] = refl
unicode-bytes (b ∷ t) = refl

unicode-is : (s : List ℕ) (at : ℕ) → placed at (unicode (drop (at + 1) s)) ≡ unicode_at s at
unicode-is s at =
    let two : at + 1 + 1 ≡ at + 2 = omega arith in
    let five : at + 1 + 4 ≡ at + 5 = omega arith in
    ap (placed at) (unicode-bytes (drop (at + 1) s))
    ∙ placed-cond at (get_or (drop (at + 1) s) 0 0 == 123) _ _
    ∙ (λ i. cond (first-behind s (at + 1) i == 123)
    (placed at (braced 0 0 ((drop-drop 1 (at + 1) s ∙ ap (λ n. drop n s) two) i)))
    ((placed-then at (λ u. by_unit u (drop 4 (drop (at + 1) s))) (four_digits (drop (at + 1) s))
    ∙ then-same _ (by_unit_at s (at + 5)) (four_digits (drop (at + 1) s))
    (λ u. ap (λ t. placed at (by_unit u t)) (drop-drop 4 (at + 1) s ∙ ap (λ n. drop n s) five)
    ∙ by_unit-is s at u)
    ∙ ap (option_and_then (by_unit_at s (at + 5))) (four-is s (at + 1))) i))

escape-bytes : (t : List ℕ) →
    escape t ≡ cond (get_or t 0 0 == 117) (unicode (drop 1 t))
    (option_map (λ c. (c, 1)) (letter (get_or t 0 0)))
escape-bytes [] = refl
escape-bytes (b ∷ t) = refl

placed-letter : (at : ℕ) (o : Option ℕ) →
    placed at (option_map (λ c. (c, 1)) o) ≡ option_map (λ c. (c, at + 1)) o
placed-letter at None = refl
placed-letter at (Some c) = refl

pub escape-is : (s : List ℕ) (at : ℕ) → placed at (escape (drop at s)) ≡ escape_at s at
escape-is s at =
    ap (placed at) (escape-bytes (drop at s))
    ∙ placed-cond at (get_or (drop at s) 0 0 == 117) _ _
    ∙ (λ i. cond (first-behind s at i == 117) ((ap (λ t. placed at (unicode t)) (drop-drop 1 at s)
    ∙ unicode-is s at) i)
    ((placed-letter at (letter (get_or (drop at s) 0 0))
    ∙ ap (λ b. option_map (λ c. (c, at + 1)) (letter b)) (first-behind s at)) i))
