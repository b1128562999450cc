-- Lines are given the same way however their bytes are cut.
use Rattle.std.proofs.Common.{◌≡◌, ◌≢◌, ◌∙◌, refl, ap, ℕ, zero, Option, Some, None, true, ◌==◌, eqb-true, List, [], ◌∷◌, ◌++◌, take, length, get_or, ◌+◌, ◌<◌, ◌≤◌, suc, append_assoc, arith, length-append}
use Rattle.std.proofs.Common.{inl, inr}
use Rattle.std.proofs.lemmas.List.{take_more, append-nil}
use Rattle.std.proofs.lemmas.Bool.Decides.{nat_tests}
use Rattle.std.proofs.lemmas.Bool.{cases_eq}
use Rattle.std.specs.Prelude.{unwrap_or}
use Rattle.memchr.specs.Find.{IsFirstByte, is_byte}
use Rattle.cs_io.specs.Lines.{IsPlain, feed, More, LineTooLong, SourceTooMuch, longest_line, largest_source}

pub IsPlain-append : (xs ys : List ℕ) → IsPlain xs → IsPlain ys → IsPlain (xs ++ ys)
IsPlain-append [] ys h k = k
IsPlain-append (x ∷ xs) ys h k = (h.0, IsPlain-append xs ys h.1 k)

pub IsPlain-more : (xs : List ℕ) (i : ℕ) → i < length xs → IsPlain (take i xs) → get_or xs i 0 ≢ 10 → IsPlain (take (i + 1) xs)
IsPlain-more xs i l h k = rw (take_more xs i 0 l) (IsPlain-append (take i xs) (get_or xs i 0 ∷ []) h (k, tt))

plain_up_to : (xs : List ℕ) (n : ℕ) → n ≤ length xs → ((k : ℕ) → 0 ≤ k → k < n → ¬ ((get_or xs k 0 == 10) ≡ true)) → IsPlain (take n xs)
plain_up_to xs zero le h = tt
plain_up_to [] (suc n) le h = tt
plain_up_to (x ∷ xs) (suc n) le h =
    ((λ e. h 0 (omega arith) (omega arith) (rw e refl)), plain_up_to xs n (omega arith) (λ k _ below. h (suc k) (omega arith) (omega arith)))

-- the place of the first newline, or the end
pub plain_before : (xs : List ℕ) (found : Option ℕ) (end : ℕ) → IsFirstByte (is_byte 10) xs found → end ≡ unwrap_or found (length xs)
    → (end ≤ length xs) × IsPlain (take end xs) × (end < length xs → get_or xs end 0 ≡ 10)
plain_before xs None end h e =
    let le : end ≤ length xs = omega (arith, e) in
    (le, plain_up_to xs end le (λ k low high. h k low (omega (arith, e))), λ below. absurd (omega (arith, e)))
plain_before xs (Some k) end h e =
    let le : end ≤ length xs = omega (arith, e, h.0.high) in
    (le, plain_up_to xs end le (λ j low high. h.0.before j low (omega (arith, e))), λ below. ap (λ i. get_or xs i 0) e ∙ eqb-true (get_or xs k 0) 10 h.1)

-- one step of a feed, by its cases
pub feed_newline : (n t : ℕ) (line rest : List ℕ) (b : ℕ) → b ≡ 10 → t ≢ largest_source → feed n t line (b ∷ rest) ≡ More n line (feed (n + 1) (t + 1) [] rest)
feed_newline n t [] rest b e h = grind (arith, nat_tests)
feed_newline n t (x ∷ line) rest b e h = grind (arith, nat_tests)

pub feed_byte : (n t : ℕ) (line rest : List ℕ) (b : ℕ) → b ≢ 10 → length line ≢ longest_line → t ≢ largest_source → feed n t line (b ∷ rest) ≡ feed n (t + 1) (line ++ b ∷ []) rest
feed_byte n t [] rest b e k h = grind (arith, nat_tests)
feed_byte n t (x ∷ line) rest b e k h = grind (arith, nat_tests)

pub feed_too_long : (n t : ℕ) (line rest : List ℕ) (b : ℕ) → b ≢ 10 → length line ≡ longest_line → feed n t line (b ∷ rest) ≡ LineTooLong n
feed_too_long n t [] rest b e k = grind (arith, nat_tests)
feed_too_long n t (x ∷ line) rest b e k = grind (arith, nat_tests)

pub feed_too_much : (n t : ℕ) (line rest : List ℕ) (b : ℕ) → (length line ≡ longest_line → b ≡ 10) → t ≡ largest_source → feed n t line (b ∷ rest) ≡ SourceTooMuch n
feed_too_much n t [] rest b e h = grind (arith, nat_tests)
feed_too_much n t (x ∷ line) rest b e h = grind (arith, nat_tests)

-- bytes without a newline are added to the line
pub feed_segment : (seg : List ℕ) (n t : ℕ) (line rest : List ℕ) → IsPlain seg → length line + length seg ≤ longest_line → t + length seg ≤ largest_source → feed n t line (seg ++ rest) ≡ feed n (t + length seg) (line ++ seg) rest
feed_segment [] n t line rest p k h = let none : t + 0 ≡ t = omega arith in rw (append-nil line, none) refl
feed_segment (b ∷ seg) n t line rest p k h =
    let long : length line ≢ longest_line = omega arith in
    let much : t ≢ largest_source = omega arith in
    let one = feed_byte n t line (seg ++ rest) b p.0 long much in
    let more = feed_segment seg n (t + 1) (line ++ b ∷ []) rest p.1 (simp length-append (omega arith)) (omega arith) in
    let same : t + 1 + length seg ≡ t + suc (length seg) = omega arith in
    one ∙ more ∙ (rw (append_assoc line (b ∷ []) seg, same) refl)

-- the line passes its limit before the source does, or at the same byte
pub feed_long : (seg : List ℕ) (n t : ℕ) (line rest : List ℕ) → IsPlain seg → length line ≤ longest_line → longest_line < length line + length seg → longest_line + t ≤ largest_source + length line → feed n t line (seg ++ rest) ≡ LineTooLong n
feed_long [] n t line rest p k l h = absurd (omega arith)
feed_long (b ∷ seg) n t line rest p k l h =
    elim (cases_eq (length line) longest_line) [
      | inl e ↦ feed_too_long n t line (seg ++ rest) b p.0 e
      | inr ne ↦
          let much : t ≢ largest_source = omega arith in
          feed_byte n t line (seg ++ rest) b p.0 ne much
          ∙ feed_long seg n (t + 1) (line ++ b ∷ []) rest p.1 (simp length-append (omega arith)) (simp length-append (omega arith)) (simp length-append (omega arith))
    ]

-- the source passes its limit before the line does, at a byte of the line
pub feed_much : (seg : List ℕ) (n t : ℕ) (line rest : List ℕ) → IsPlain seg → t ≤ largest_source → largest_source < t + length seg → largest_source + length line < longest_line + t → feed n t line (seg ++ rest) ≡ SourceTooMuch n
feed_much [] n t line rest p k l h = absurd (omega arith)
feed_much (b ∷ seg) n t line rest p k l h =
    elim (cases_eq t largest_source) [
      | inl e ↦ feed_too_much n t line (seg ++ rest) b (λ full. absurd (omega arith)) e
      | inr ne ↦
          let long : length line ≢ longest_line = omega arith in
          feed_byte n t line (seg ++ rest) b p.0 long ne
          ∙ feed_much seg n (t + 1) (line ++ b ∷ []) rest p.1 (omega arith) (omega arith) (simp length-append (omega arith))
    ]
