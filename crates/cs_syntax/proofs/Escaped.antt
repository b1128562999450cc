-- Escapes: how far they reach, and that they are read from their own bytes alone.
use Rattle.std.proofs.Common.{◌≡◌, ℕ, zero, suc, ◌+◌, ◌*◌, ◌<◌, ◌≤◌, List, length, drop, get_or, Bool, true, false, Option, Some, None, option_map, refl, sym, ap, ◌∙◌, arith}
use Rattle.std.specs.Prelude.{◌==◌, option_and_then, slice_index}
use Rattle.std.specs.Char.{is_digit, digit_value}
use Rattle.std.proofs.lemmas.Bool.{lt-ltb, ne_eqb, cond-false}
use Rattle.std.proofs.lemmas.List.{at_drop_more}
use Rattle.cs_syntax.specs.Escapes.{letter, braced}
use Rattle.cs_syntax.specs.Ends.{above, hex, four_at, by_unit_at, unicode_at, escape_at}

pub above-le : (d : ℕ) → d ≤ 5 → above d ≤ 1048576
above-le zero h = omega arith
above-le (suc zero) h = omega arith
above-le (suc (suc zero)) h = omega arith
above-le (suc (suc (suc zero))) h = omega arith
above-le (suc (suc (suc (suc zero)))) h = omega arith
above-le (suc (suc (suc (suc (suc zero))))) h = omega arith
above-le (suc (suc (suc (suc (suc (suc d)))))) h = absurd (omega arith)

pub above-more : (d n v : ℕ) → n < above d → v < 16 → n * 16 + v < above (d + 1)
above-more d n v h k =
    let e : d + 1 ≡ suc d = omega arith in
    rw e (omega arith)

-- the value of a digit
hex-some : (b v : ℕ) (t : Bool) → is_digit b 16 ≡ t → hex b ≡ Some v →
    (t ≡ true) × (digit_value b ≡ v)
hex-some b v true is h = let e : Some (digit_value b) ≡ Some v = sym (rw is refl) ∙ h in (refl, cc)
hex-some b v false is h = let e : None ≡ Some v = sym (rw is refl) ∙ h in absurd cc

-- one digit more
pub braced-more : (n d v : ℕ) (s : List ℕ) (i : ℕ) → i < length s →
    (get_or s i 0 == 125) ≡ false → hex (get_or s i 0) ≡ Some v → d < 6 →
    braced n d (drop i s) ≡ braced (n * 16 + v) (d + 1) (drop (i + 1) s)
braced-more n d v s i l no_end is few =
    let p = hex-some (get_or s i 0) v _ refl is in
    at_drop_more (braced n d) s i 0 l ∙ rw (no_end, p.0, lt-ltb d 6 few, p.1) refl

-- what is read behind `\` at a letter, and behind `\u` at four digits
pub letter-at : (s : List ℕ) (at b c : ℕ) → b ≡ slice_index s at → (b ≡ 117 → ⊥) →
    letter b ≡ Some c → Some (c, at + 1) ≡ escape_at s at
letter-at s at b c is other l =
    sym (cond-false _ _ _ (ne_eqb _ _ (λ e. other (is ∙ e)))
    ∙ ap (option_map (λ (x : ℕ). (x, at + 1))) (ap letter (sym is) ∙ l))

pub units-at : (s : List ℕ) (at b n : ℕ) (r : Option (ℕ × ℕ)) → b ≡ slice_index s (at + 1) →
    (b ≡ 123 → ⊥) → four_at s (at + 1) ≡ Some n → r ≡ by_unit_at s (at + 5) n → r ≡ unicode_at s at
units-at s at b n r is other four e =
    e ∙ sym (cond-false _ _ _ (ne_eqb _ _ (λ h. other (is ∙ h)))
    ∙ ap (option_and_then (by_unit_at s (at + 5))) four)
