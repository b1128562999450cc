-- The longest front of a list of bytes that passes a test, for the tests that words and numbers
-- are made of.
use Rattle.std.proofs.Common.{◌≡◌, ℕ, zero, suc, ◌+◌, ◌-◌, ◌<◌, ◌≤◌, List, [], ◌∷◌, length, drop, take, get_or, Bool, true, false, cond, refl, sym, ap, ◌∙◌, subst, arith, length-drop}
use Rattle.std.specs.Prelude.{◌==◌, ◌&&◌, ◌||◌, nat_lt}
use Rattle.std.specs.List.{prefix_len, list_all}
use Rattle.std.specs.Char.{is_ascii_digit}
use Rattle.std.proofs.lemmas.Bool.{cond-true, cond-false, lt-ltb}
use Rattle.std.proofs.lemmas.List.Sums.{prefix_len-le-length}
use Rattle.cs_syntax.specs.Lex.{digits_then, some_digits_then, is_end, unsigned, ends_number, follows_whole, is_number, is_letter, is_word_byte, is_word}

-- n bytes pass, and no more do
pub record Longest (p : List ℕ → Bool) (s : List ℕ) (n : ℕ) : Type 0 where
  pub within : n ≤ length s
  pub passes : p (take n s) ≡ true
  pub stops : (m : ℕ) → n < m → m ≤ length s → p (take m s) ≡ false

-- tests that agree on the fronts
pub longest-same : (p q : List ℕ → Bool) (s : List ℕ) (n : ℕ) →
    ((m : ℕ) → p (take m s) ≡ q (take m s)) → Longest q s n → Longest p s n
longest-same p q s n same l = record {
  within = l.within;
  passes = same n ∙ l.passes;
  stops = λ m a b. same m ∙ l.stops m a b;
}

-- tests that agree on the fronts that are not empty
pub longest-above : (p q : List ℕ → Bool) (s : List ℕ) (n : ℕ) →
    ((m : ℕ) → 0 < m → p (take m s) ≡ q (take m s)) → 0 < n → Longest q s n → Longest p s n
longest-above p q s n same some l = record {
  within = l.within;
  passes = same n some ∙ l.passes;
  stops = λ m a b. same m (omega arith) ∙ l.stops m a b;
}

-- a first byte, and behind it what another test passes
pub longest-behind : (p q : List ℕ → Bool) (b : ℕ) (s : List ℕ) (n : ℕ) →
    ((xs : List ℕ) → p (b ∷ xs) ≡ q xs) → Longest q s n → Longest p (b ∷ s) (suc n)
longest-behind p q b s n same l = record {
  within = let w = l.within in omega (arith, w);
  passes = same (take n s) ∙ l.passes;
  stops = more;
}
  where
    more : (m : ℕ) → suc n < m → m ≤ length (b ∷ s) → p (take m (b ∷ s)) ≡ false
    more zero a c = absurd (omega arith)
    more (suc m) a c = same (take m s) ∙ l.stops m (omega arith) (omega arith)

-- only nothing passes
pub longest-none : (p : List ℕ → Bool) (s : List ℕ) → p [] ≡ true →
    ((m : ℕ) → 0 < m → m ≤ length s → p (take m s) ≡ false) → Longest p s 0
longest-none p s h none = record { within = omega arith; passes = h; stops = none }

-- how many bytes pass
pub longest-all : (p : ℕ → Bool) (s : List ℕ) → Longest (list_all p) s (prefix_len p s)
longest-all p [] = longest-none (list_all p) [] refl (λ m a b. absurd (omega arith))
longest-all p (b ∷ s) = by_first (p b) refl (longest-all p s)
  where
    by_first : (t : Bool) → p b ≡ t → Longest (list_all p) s (prefix_len p s) →
        Longest (list_all p) (b ∷ s) (cond t (1 + prefix_len p s) 0)
    by_first true is l =
        let e : suc (prefix_len p s) ≡ 1 + prefix_len p s = omega arith in
        subst (Longest (list_all p) (b ∷ s)) e
        (longest-behind (list_all p) (list_all p) b s (prefix_len p s) (λ xs. ap (λ t. t
        && list_all p xs) is) l)
    by_first false is l = longest-none (list_all p) (b ∷ s) refl more
      where
        more : (m : ℕ) → 0 < m → m ≤ length (b ∷ s) → list_all p (take m (b ∷ s)) ≡ false
        more zero a c = absurd (omega arith)
        more (suc m) a c = ap (λ t. t && list_all p (take m s)) is

abbrev pub digits : List ℕ → ℕ
digits s = prefix_len is_ascii_digit s

-- digits in front of what another test passes
digits_then-take : (p : List ℕ → Bool) (s : List ℕ) (m : ℕ) →
    digits_then p (take (digits s + m) s) ≡ p (take m (drop (digits s) s))
digits_then-take p [] m =
    let e : 0 + m ≡ m = omega arith in
    ap (λ n. digits_then p (take n [])) e ∙ none m
  where
    none : (n : ℕ) → digits_then p (take {A = ℕ} n []) ≡ p (take {A = ℕ} n [])
    none zero = refl
    none (suc n) = refl
digits_then-take p (b ∷ s) m = by_first (is_ascii_digit b) refl (digits_then-take p s m)
  where
    here : (n : ℕ) → is_ascii_digit b ≡ false → digits_then p (take n (b ∷ s)) ≡ p (take n (b ∷ s))
    here zero is = refl
    here (suc n) is = cond-false _ _ _ is

    by_first : (t : Bool) → is_ascii_digit b ≡ t →
        digits_then p (take (digits s + m) s) ≡ p (take m (drop (digits s) s))
        → digits_then p (take (cond t (1 + digits s) 0 + m) (b ∷ s))
        ≡ p (take m (drop (cond t (1 + digits s) 0) (b ∷ s)))
    by_first true is h =
        let e : 1 + digits s + m ≡ suc (digits s + m) = omega arith in
        let f : 1 + digits s ≡ suc (digits s) = omega arith in
        ap (λ n. digits_then p (take n (b ∷ s))) e ∙ cond-true _ _ _ is ∙ h
        ∙ sym (ap (λ n. p (take m (drop n (b ∷ s)))) f)
    by_first false is h = let e : 0 + m ≡ m = omega arith in
        ap (λ n. digits_then p (take n (b ∷ s))) e ∙ here m is

longest-digits : (p : List ℕ → Bool) (s : List ℕ) (n : ℕ) → Longest p (drop (digits s) s) n →
    Longest (digits_then p) s (digits s + n)
longest-digits p s n l = record {
  within = omega (
    arith,
    l.within,
    length-drop (digits s) s,
    prefix_len-le-length is_ascii_digit
        s,
  );
  passes = digits_then-take p s n ∙ l.passes;
  stops = λ m a b.
      let e : m ≡ digits s + (m - digits s) = omega arith in
      ap (λ k. digits_then p (take k s)) e ∙ digits_then-take p s (m - digits s)
      ∙ l.stops (m - digits s) (omega arith) (omega (arith, length-drop (digits s) s));
}

some-same : (p : List ℕ → Bool) (s : List ℕ) (m : ℕ) → 0 < digits s → 0 < m →
    some_digits_then p (take m s) ≡ digits_then p (take m s)
some-same p [] m d l = absurd (omega arith)
some-same p (b ∷ s) zero d l = absurd (omega arith)
some-same p (b ∷ s) (suc m) d l = by_first (is_ascii_digit b) refl d
  where
    by_first : (t : Bool) → is_ascii_digit b ≡ t → 0 < cond t (1 + digits s) 0 →
        some_digits_then p (b ∷ take m s) ≡ digits_then p (b ∷ take m s)
    by_first true is k = ap (λ t. t && digits_then p (take m s)) is ∙ sym (cond-true _ _ _ is)
    by_first false is k = absurd (omega arith)

some-none : (p : List ℕ → Bool) (s : List ℕ) (m : ℕ) → digits s ≡ 0 →
    some_digits_then p (take m s) ≡ false
some-none p s zero d = refl
some-none p [] (suc m) d = refl
some-none p (b ∷ s) (suc m) d = by_first (is_ascii_digit b) refl d
  where
    by_first : (t : Bool) → is_ascii_digit b ≡ t → cond t (1 + digits s) 0 ≡ 0 →
        some_digits_then p (b ∷ take m s) ≡ false
    by_first true is k = absurd (omega arith)
    by_first false is k = ap (λ t. t && digits_then p (take m s)) is

longest-some : (p : List ℕ → Bool) (s : List ℕ) (n : ℕ) → 0 < digits s →
    Longest p (drop (digits s) s) n → Longest (some_digits_then p) s (digits s + n)
longest-some p s n d l =
    longest-above (some_digits_then p) (digits_then p) s (digits s + n)
    (λ m a. some-same p s m d a) (omega arith) (longest-digits p s n l)

longest-end : (s : List ℕ) → Longest is_end s 0
longest-end s = longest-none is_end s refl (more s)
  where
    more : (t : List ℕ) (m : ℕ) → 0 < m → m ≤ length t → is_end (take m t) ≡ false
    more [] m a b = absurd (omega arith)
    more (b ∷ t) zero a c = absurd (omega arith)
    more (b ∷ t) (suc m) a c = refl

-- the bytes of a `+` or `-` at the front
abbrev pub sign_bytes : List ℕ → ℕ
sign_bytes s = cond (get_or s 0 0 == 43 || get_or s 0 0 == 45) 1 0

unsigned-take : (s : List ℕ) (m : ℕ) →
    unsigned (take m s) ≡ take (m - sign_bytes s) (drop (sign_bytes s) s)
unsigned-take s zero = let e : zero - sign_bytes s ≡ 0 = omega arith in
    sym (ap (λ n. take n (drop (sign_bytes s) s)) e)
unsigned-take [] (suc m) = let e : suc m - 0 ≡ suc m = omega arith in
    sym (ap (λ n. take {A = ℕ} n []) e)
unsigned-take (b ∷ s) (suc m) = by_sign (b == 43 || b == 45)
  where
    by_sign : (t : Bool) →
        cond t (take m s) (b ∷ take m s) ≡ take (suc m - cond t 1 0) (drop (cond t 1 0) (b ∷ s))
    by_sign true = let e : suc m - 1 ≡ m = omega arith in sym (ap (λ n. take n s) e)
    by_sign false = let e : suc m - 0 ≡ suc m = omega arith in sym (ap (λ n. take n (b ∷ s)) e)

-- the bytes of an exponent at the front, 0 where none stands there
abbrev pub exponent_bytes : List ℕ → ℕ
exponent_bytes s =
    cond (get_or s 0 0 == 101 || get_or s 0 0 == 69)
    (cond (nat_lt 0 (digits (drop (sign_bytes (drop 1 s)) (drop 1 s))))
    (1 + sign_bytes (drop 1 s) + digits (drop (sign_bytes (drop 1 s)) (drop 1 s))) 0) 0

-- an exponent behind its `e`
longest-unsigned : (s : List ℕ) → 0 < digits (drop (sign_bytes s) s) →
    Longest (λ xs. some_digits_then is_end (unsigned xs)) s
    (sign_bytes s + digits (drop (sign_bytes s) s))
longest-unsigned s d =
    let u = drop (sign_bytes s) s in
    let l = longest-some is_end u 0 d (longest-end (drop (digits u) u)) in
    let same : sign_bytes s + digits u - sign_bytes s ≡ digits u + 0 = omega arith in record {
      within = omega (
        arith,
        l.within,
        length-drop (sign_bytes s) s,
        prefix_len-le-length
            is_ascii_digit u,
      );
      passes = ap (some_digits_then is_end) (unsigned-take s (sign_bytes s + digits u)
          ∙ ap (λ n. take n u) same) ∙ l.passes;
      stops = λ m a b. ap (some_digits_then is_end) (unsigned-take s m)
          ∙ l.stops (m - sign_bytes s) (omega arith) (omega (arith, length-drop (sign_bytes s) s));
    }

pub longest-exponent : (s : List ℕ) → Longest ends_number s (exponent_bytes s)
longest-exponent [] = longest-none ends_number [] refl (λ m a b. absurd (omega arith))
longest-exponent (b ∷ s) = by_e (b == 101 || b == 69) refl
  where
    d : ℕ
    d = digits (drop (sign_bytes s) s)

    none : ((m : ℕ) → ends_number (b ∷ take m s) ≡ false) → Longest ends_number (b ∷ s) 0
    none h = longest-none ends_number (b ∷ s) refl (more h)
      where
        more : ((m : ℕ) → ends_number (b ∷ take m s) ≡ false) → (m : ℕ) → 0 < m →
            m ≤ length (b ∷ s) → ends_number (take m (b ∷ s)) ≡ false
        more h zero a c = absurd (omega arith)
        more h (suc m) a c = h m

    by_digits : (b == 101 || b == 69) ≡ true → (n : ℕ) → digits (drop (sign_bytes s) s) ≡ n →
        Longest ends_number (b ∷ s) (cond (nat_lt 0 n) (1 + sign_bytes s + n) 0)
    by_digits is zero e =
        none (λ m. ap (λ t. t && some_digits_then is_end (unsigned (take m s))) is
        ∙ ap (some_digits_then is_end) (unsigned-take s m)
        ∙ some-none is_end (drop (sign_bytes s) s) (m - sign_bytes s) e)
    by_digits is (suc n) e =
        let l = longest-behind ends_number (λ xs. some_digits_then is_end (unsigned xs)) b s
        (sign_bytes s + digits (drop (sign_bytes s) s)) (λ xs. ap (λ t. t
        && some_digits_then is_end (unsigned xs)) is) (longest-unsigned s (omega arith)) in
        let size : suc (sign_bytes s + digits (drop (sign_bytes s) s))
        ≡ 1 + sign_bytes s + suc n = omega arith in
        subst (Longest ends_number (b ∷ s)) (size
        ∙ sym (cond-true _ _ _ (lt-ltb 0 (suc n) (omega arith)))) l

    by_e : (t : Bool) → (b == 101 || b == 69) ≡ t →
        Longest ends_number (b ∷ s)
        (cond t (cond (nat_lt 0 (digits (drop (sign_bytes s) s)))
        (1 + sign_bytes s + digits (drop (sign_bytes s) s)) 0) 0)
    by_e true is = by_digits is (digits (drop (sign_bytes s) s)) refl
    by_e false is = none (λ m. ap (λ t. t && some_digits_then is_end (unsigned (take m s))) is)

-- the bytes of a fraction and an exponent at the front, where either may be absent
abbrev pub fraction_bytes : List ℕ → ℕ
fraction_bytes s =
    cond (get_or s 0 0 == 46)
    (cond (nat_lt 0 (digits (drop 1 s)))
    (1 + digits (drop 1 s) + exponent_bytes (drop (digits (drop 1 s)) (drop 1 s))) 0)
    (exponent_bytes s)

pub longest-fraction : (s : List ℕ) → Longest follows_whole s (fraction_bytes s)
longest-fraction [] = longest-none follows_whole [] refl (λ m a b. absurd (omega arith))
longest-fraction (b ∷ s) = by_point (b == 46) refl
  where
    none : ((m : ℕ) → follows_whole (b ∷ take m s) ≡ false) → Longest follows_whole (b ∷ s) 0
    none h = longest-none follows_whole (b ∷ s) refl (more h)
      where
        more : ((m : ℕ) → follows_whole (b ∷ take m s) ≡ false) → (m : ℕ) → 0 < m →
            m ≤ length (b ∷ s) → follows_whole (take m (b ∷ s)) ≡ false
        more h zero a c = absurd (omega arith)
        more h (suc m) a c = h m

    plain : (b == 46) ≡ false → (m : ℕ) →
        follows_whole (take m (b ∷ s)) ≡ ends_number (take m (b ∷ s))
    plain is zero = refl
    plain is (suc m) = cond-false _ _ _ is

    by_digits : (b == 46) ≡ true → (n : ℕ) → digits s ≡ n →
        Longest follows_whole (b ∷ s) (cond (nat_lt 0 n) (1 + n + exponent_bytes (drop n s)) 0)
    by_digits is zero e = none (λ m. cond-true _ _ _ is ∙ some-none ends_number s m e)
    by_digits is (suc n) e =
        let l = longest-behind follows_whole (some_digits_then ends_number) b s
        (digits s + exponent_bytes (drop (digits s) s)) (λ xs. cond-true _ _ _ is)
        (longest-some ends_number s _ (omega arith) (longest-exponent (drop (digits s) s))) in
        let size : suc (digits s + exponent_bytes (drop (digits s) s))
        ≡ 1 + suc n + exponent_bytes (drop (digits s) s) = omega arith in
        subst (Longest follows_whole (b ∷ s)) (size
        ∙ ap (λ k. 1 + suc n + exponent_bytes (drop k s)) e
        ∙ sym (cond-true _ _ _ (lt-ltb 0 (suc n) (omega arith)))) l

    by_point : (t : Bool) → (b == 46) ≡ t →
        Longest follows_whole (b ∷ s)
        (cond t (cond (nat_lt 0 (digits s)) (1 + digits s + exponent_bytes (drop (digits s) s)) 0)
        (exponent_bytes (b ∷ s)))
    by_point true is = by_digits is (digits s) refl
    by_point false is =
        longest-same follows_whole ends_number (b ∷ s) (exponent_bytes (b ∷ s)) (plain is)
        (longest-exponent (b ∷ s))

-- the bytes of the number at the front, whose first byte is a digit
abbrev pub number_bytes : List ℕ → ℕ
number_bytes s =
    cond (get_or s 0 0 == 48) (1 + fraction_bytes (drop 1 s))
    (digits s + fraction_bytes (drop (digits s) s))

pub longest-number : (b : ℕ) (s : List ℕ) → is_ascii_digit b ≡ true →
    Longest is_number (b ∷ s) (number_bytes (b ∷ s))
longest-number b s digit = by_zero (b == 48) refl
  where
    plain : (b == 48) ≡ false → (m : ℕ) → 0 < m →
        is_number (take m (b ∷ s)) ≡ digits_then follows_whole (take m (b ∷ s))
    plain is zero l = absurd (omega arith)
    plain is (suc m) l =
        cond-false _ _ _ is ∙ ap (λ t. t && digits_then follows_whole (take m s)) digit
        ∙ sym (cond-true _ _ _ digit)

    by_zero : (t : Bool) → (b == 48) ≡ t →
        Longest is_number (b ∷ s)
        (cond t (1 + fraction_bytes s)
        (digits (b ∷ s) + fraction_bytes (drop (digits (b ∷ s)) (b ∷ s))))
    by_zero true is =
        let e : suc (fraction_bytes s) ≡ 1 + fraction_bytes s = omega arith in
        subst (Longest is_number (b ∷ s)) e
        (longest-behind is_number follows_whole b s (fraction_bytes s)
        (λ xs. cond-true _ _ _ is) (longest-fraction s))
    by_zero false is =
        let some : digits (b ∷ s) ≡ 1 + digits s = cond-true _ _ _ digit in
        longest-above is_number (digits_then follows_whole) (b ∷ s) _ (plain is) (omega arith)
        (longest-digits follows_whole (b ∷ s) _
        (longest-fraction (drop (digits (b ∷ s)) (b ∷ s))))

pub longest-word : (b : ℕ) (s : List ℕ) → is_letter b ≡ true →
    Longest is_word (b ∷ s) (suc (prefix_len is_word_byte s))
longest-word b s letter =
    longest-behind is_word (list_all is_word_byte) b s (prefix_len is_word_byte s)
    (λ xs. ap (λ t. t && list_all is_word_byte xs) letter) (longest-all is_word_byte s)
