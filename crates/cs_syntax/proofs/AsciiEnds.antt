-- A token begins and ends with an ASCII byte, so that no character of its text is cut.
use Rattle.std.proofs.Common.{◌≡◌, ℕ, zero, suc, ◌-◌, ◌<◌, List, [], ◌∷◌, ◌++◌, length, get_or, Bool, true, false, cond, Option, Some, None, option_map, is_some, refl, sym, ap, ◌∙◌, arith}
use Rattle.std.specs.Prelude.{◌==◌, ◌&&◌, ◌||◌, nat_lt, option_and_then}
use Rattle.std.specs.List.{list_all}
use Rattle.std.specs.Char.{is_ascii_digit}
use Rattle.std.proofs.lemmas.Bool.{true≢false, ltb-true, eqb-true, and_parts}
use Rattle.std.proofs.lemmas.Bool.Decides.{nat_tests}
use Rattle.cs_syntax.specs.declared.token.Kind.{Kind}
use Rattle.cs_syntax.specs.declared.token.Kind.TheVariants as kind
use Rattle.cs_syntax.specs.Expression.{text_tok, param_tok, sign_tok}
use Rattle.cs_syntax.specs.Escapes.{is_quote, piece, ended, content, decoded}
use Rattle.cs_syntax.specs.Signs.{sign_of}
use Rattle.cs_syntax.specs.Lex.{is_letter, is_word_byte, is_word, is_number, digits_then, some_digits_then, is_end, unsigned, ends_number, follows_whole, param_name, meaning}
use Rattle.cs_syntax.proofs.Signed.{each-sign}

abbrev is_ascii : ℕ → Bool
is_ascii b = nat_lt b 128

abbrev pub last : List ℕ → ℕ
last s = get_or s (length s - 1) 0

-- the first and the last byte of a source
pub record AsciiEnds (s : List ℕ) : Type 0 where
  pub some : 0 < length s
  pub first_is : get_or s 0 0 < 128
  pub last_is : last s < 128

last-behind : (b c : ℕ) (s : List ℕ) → last (b ∷ c ∷ s) ≡ last (c ∷ s)
last-behind b c s =
    let e : length (b ∷ c ∷ s) - 1 ≡ suc (length (c ∷ s) - 1) = omega arith in
    ap (λ n. get_or (b ∷ c ∷ s) n 0) e

all-last : (b : ℕ) (s : List ℕ) → list_all is_ascii (b ∷ s) ≡ true → last (b ∷ s) < 128
all-last b [] h = ltb-true b 128 (and_parts (is_ascii b) true h).0
all-last b (c ∷ s) h = let e = last-behind b c s in let k =
    all-last c s (and_parts (is_ascii b) (list_all is_ascii (c ∷ s)) h).1 in omega (arith, e, k)

ends-all : (b : ℕ) (s : List ℕ) → list_all is_ascii (b ∷ s) ≡ true → AsciiEnds (b ∷ s)
ends-all b s h =
    record {
      some = omega arith;
      first_is =
          ltb-true b 128 (and_parts (is_ascii b) (list_all is_ascii s) h).0;
      last_is = all-last b s h;
    }

weaker : (p q : ℕ → Bool) → ((b : ℕ) → p b ≡ true → q b ≡ true) → (s : List ℕ) →
    list_all p s ≡ true → list_all q s ≡ true
weaker p q w [] h = refl
weaker p q w (b ∷ s) h = let x = and_parts (p b) (list_all p s) h in
    rw (w b x.0) (weaker p q w s x.1)

front : (b : ℕ) (s : List ℕ) → is_ascii b ≡ true → list_all is_ascii s ≡ true →
    list_all is_ascii (b ∷ s) ≡ true
front b s h k = rw h k

letter-ascii : (b : ℕ) → is_letter b ≡ true → is_ascii b ≡ true
letter-ascii b h = grind (arith, nat_tests)

word_byte-ascii : (b : ℕ) → is_word_byte b ≡ true → is_ascii b ≡ true
word_byte-ascii b h = grind (arith, nat_tests)

digit-ascii : (b : ℕ) → is_ascii_digit b ≡ true → is_ascii b ≡ true
digit-ascii b h = grind (arith, nat_tests)

word-ascii : (s : List ℕ) → is_word s ≡ true → list_all is_ascii s ≡ true
word-ascii [] h = refl
word-ascii (b ∷ s) h =
    let x = and_parts (is_letter b) (list_all is_word_byte s) h in
    front b s (letter-ascii b x.0) (weaker is_word_byte is_ascii word_byte-ascii s x.1)

digits-ascii : (p : List ℕ → Bool) → ((s : List ℕ) → p s ≡ true → list_all is_ascii s ≡ true) →
    (s : List ℕ) → digits_then p s ≡ true → list_all is_ascii s ≡ true
digits-ascii p w [] h = refl
digits-ascii p w (b ∷ s) h = by_digit (is_ascii_digit b) refl h (digits-ascii p w s)
  where
    by_digit : (t : Bool) → is_ascii_digit b ≡ t → cond t (digits_then p s) (p (b ∷ s)) ≡ true →
        (digits_then p s ≡ true → list_all is_ascii s ≡ true) → list_all is_ascii (b ∷ s) ≡ true
    by_digit true e k ih = front b s (digit-ascii b e) (ih k)
    by_digit false e k ih = w (b ∷ s) k

some-ascii : (p : List ℕ → Bool) → ((s : List ℕ) → p s ≡ true → list_all is_ascii s ≡ true) →
    (s : List ℕ) → some_digits_then p s ≡ true → list_all is_ascii s ≡ true
some-ascii p w [] h = refl
some-ascii p w (b ∷ s) h =
    let x = and_parts (is_ascii_digit b) (digits_then p s) h in
    front b s (digit-ascii b x.0) (digits-ascii p w s x.1)

end-ascii : (s : List ℕ) → is_end s ≡ true → list_all is_ascii s ≡ true
end-ascii [] h = refl
end-ascii (b ∷ s) h = absurd (true≢false (sym h))

unsigned-ascii : (s : List ℕ) → some_digits_then is_end (unsigned s) ≡ true →
    list_all is_ascii s ≡ true
unsigned-ascii [] h = refl
unsigned-ascii (b ∷ s) h = by_sign (b == 43 || b == 45) refl h
  where
    by_sign : (t : Bool) → (b == 43 || b == 45) ≡ t → some_digits_then is_end (cond t s (b ∷ s))
        ≡ true → list_all is_ascii (b ∷ s) ≡ true
    by_sign true e k = front b s (grind (arith, nat_tests)) (some-ascii is_end end-ascii s k)
    by_sign false e k = some-ascii is_end end-ascii (b ∷ s) k

e-ascii : (b : ℕ) → (b == 101 || b == 69) ≡ true → is_ascii b ≡ true
e-ascii b h = grind (arith, nat_tests)

ends_number-ascii : (s : List ℕ) → ends_number s ≡ true → list_all is_ascii s ≡ true
ends_number-ascii [] h = refl
ends_number-ascii (b ∷ s) h =
    let x = and_parts (b == 101 || b == 69) (some_digits_then is_end (unsigned s)) h in
    front b s (e-ascii b x.0) (unsigned-ascii s x.1)

follows-ascii : (s : List ℕ) → follows_whole s ≡ true → list_all is_ascii s ≡ true
follows-ascii [] h = refl
follows-ascii (b ∷ s) h = by_point (b == 46) refl h
  where
    by_point : (t : Bool) → (b == 46) ≡ t →
        cond t (some_digits_then ends_number s) (ends_number (b ∷ s)) ≡ true →
        list_all is_ascii (b ∷ s) ≡ true
    by_point true e k =
        front b s (grind (arith, nat_tests)) (some-ascii ends_number ends_number-ascii s k)
    by_point false e k = ends_number-ascii (b ∷ s) k

number-ascii : (s : List ℕ) → is_number s ≡ true → list_all is_ascii s ≡ true
number-ascii [] h = refl
number-ascii (b ∷ s) h = by_zero (b == 48) refl h
  where
    by_zero : (t : Bool) → (b == 48) ≡ t →
        cond t (follows_whole s) (is_ascii_digit b && digits_then follows_whole s) ≡ true →
        list_all is_ascii (b ∷ s) ≡ true
    by_zero true e k = front b s (grind (arith, nat_tests)) (follows-ascii s k)
    by_zero false e k =
        let x = and_parts (is_ascii_digit b) (digits_then follows_whole s) k in
        front b s (digit-ascii b x.0) (digits-ascii follows_whole follows-ascii s x.1)

-- a text ends with its quote
content-last : (q k : ℕ) (s : List ℕ) → is_some (content q k s) ≡ true →
    (0 < length s) × (last s ≡ q)
content-last q k [] h = absurd (true≢false (sym h))
content-last q (suc k) (b ∷ s) h = further s (content-last q k s h)
  where
    further : (t : List ℕ) → (0 < length t) × (last t ≡ q) →
        (0 < length (b ∷ t)) × (last (b ∷ t) ≡ q)
    further [] x = absurd (omega (arith, x.0))
    further (c ∷ t) x = (omega arith, last-behind b c t ∙ x.1)
content-last q zero (b ∷ s) h = by_quote (b == q) refl h (λ k g. content-last q k s g)
  where
    further : (t : List ℕ) → (0 < length t) × (last t ≡ q) →
        (0 < length (b ∷ t)) × (last (b ∷ t) ≡ q)
    further [] x = absurd (omega (arith, x.0))
    further (c ∷ t) x = (omega arith, last-behind b c t ∙ x.1)

    of_ended : (t : List ℕ) → (b == q) ≡ true → is_some (ended t) ≡ true →
        (0 < length (b ∷ t)) × (last (b ∷ t) ≡ q)
    of_ended [] e g = (omega arith, eqb-true b q e)
    of_ended (c ∷ t) e g = absurd (true≢false (sym g))

    is_some-map : (f : List ℕ → List ℕ) (o : Option (List ℕ)) → is_some (option_map f o) ≡ true →
        is_some o ≡ true
    is_some-map f None g = g
    is_some-map f (Some x) g = refl

    by_piece : (o : Option (List ℕ × ℕ)) →
        is_some (option_and_then (λ (p : List ℕ × ℕ). option_map (λ (text : List ℕ). p.0
        ++ text) (content q p.1 s)) o) ≡ true
        → ((k : ℕ) → is_some (content q k s) ≡ true → (0 < length s) × (last s ≡ q)) →
        (0 < length (b ∷ s)) × (last (b ∷ s) ≡ q)
    by_piece None g ih = absurd (true≢false (sym g))
    by_piece (Some p) g ih =
        further s (ih p.1 (is_some-map (λ (text : List ℕ). p.0 ++ text) (content q p.1 s) g))

    by_quote : (t : Bool) → (b == q) ≡ t →
        is_some (cond t (ended s)
        (option_and_then (λ (p : List ℕ × ℕ). option_map (λ (text : List ℕ). p.0
        ++ text) (content q p.1 s)) (piece b s))) ≡ true
        → ((k : ℕ) → is_some (content q k s) ≡ true → (0 < length s) × (last s ≡ q)) →
        (0 < length (b ∷ s)) × (last (b ∷ s) ≡ q)
    by_quote true e g ih = of_ended s e g
    by_quote false e g ih = by_piece (piece b s) g ih

pub quote-ascii : (b : ℕ) → is_quote b ≡ true → b < 128
quote-ascii b h = grind (arith, nat_tests)

text-ends : (s : List ℕ) → is_some (decoded s) ≡ true → AsciiEnds s
text-ends [] h = absurd (true≢false (sym h))
text-ends (q ∷ s) h = by_quote (is_quote q) refl h
  where
    by_content : (t : List ℕ) → is_quote q ≡ true → (0 < length t) × (last t ≡ q) →
        AsciiEnds (q ∷ t)
    by_content [] e x = absurd (omega (arith, x.0))
    by_content (c ∷ t) e x =
        let size = last-behind q c t in
        let small = quote-ascii q e in
        record { some = omega arith; first_is = small; last_is = omega (arith, x.1, size, small) }

    by_quote : (t : Bool) → is_quote q ≡ t → is_some (cond t (content q 0 s) None) ≡ true →
        AsciiEnds (q ∷ s)
    by_quote true e k = by_content s e (content-last q 0 s k)
    by_quote false e k = absurd (true≢false (sym k))

is_some-cond : {A : Type 0} (t : Bool) (x : A) → is_some (cond t (Some x) None) ≡ true → t ≡ true
is_some-cond true x h = refl
is_some-cond false x h = h

is_some-map : {A B : Type 0} (f : A → B) (o : Option A) → is_some (option_map f o) ≡ true →
    is_some o ≡ true
is_some-map f None h = h
is_some-map f (Some x) h = refl

dollar-ascii : (b : ℕ) → (b == 36) ≡ true → is_ascii b ≡ true
dollar-ascii b h = grind (arith, nat_tests)

-- the source of a token
pub ascii-ends : (k : Kind) (s : List ℕ) → is_some (meaning k s) ≡ true → AsciiEnds s
ascii-ends kind.Word [] h = absurd (true≢false (sym h))
ascii-ends kind.Word (b ∷ s) h =
    ends-all b s (word-ascii (b ∷ s) (is_some-cond (is_word (b ∷ s)) _ h))
ascii-ends kind.Number [] h = absurd (true≢false (sym h))
ascii-ends kind.Number (b ∷ s) h =
    ends-all b s (number-ascii (b ∷ s) (is_some-cond (is_number (b ∷ s)) _ h))
ascii-ends kind.Text s h = text-ends s (is_some-map text_tok (decoded s) h)
ascii-ends kind.Param [] h = absurd (true≢false (sym h))
ascii-ends kind.Param (b ∷ s) h =
    let x = and_parts (b == 36) (is_word s) (is_some-cond (b == 36
    && is_word s) s (is_some-map param_tok (param_name (b ∷ s)) h)) in
    ends-all b s (front b s (dollar-ascii b x.0) (word-ascii s x.1))
ascii-ends kind.Sign [] h = absurd (true≢false (sym h))
ascii-ends kind.Sign (b ∷ s) h =
    ends-all b s (each-sign (list_all is_ascii) refl (b ∷ s)
    (is_some-map sign_tok (sign_of (b ∷ s)) h))
