-- The first byte of a token tells its kind, and the end that the code finds is that of the
-- longest token.
use Rattle.std.proofs.Common.{◌≡◌, ℕ, zero, suc, ◌+◌, ◌-◌, ◌<◌, ◌≤◌, min, List, [], ◌∷◌, length, drop, take, get_or, Bool, true, false, not, cond, Option, Some, None, option_map, is_some, inl, inr, ◌⊎◌, ⊎_elim, refl, sym, ap, ◌∙◌, subst, arith, length-drop, get_or-drop, MatchOption}
use Rattle.std.specs.Prelude.{◌==◌, ◌&&◌, ◌||◌}
use Rattle.std.specs.List.{list_all, prefix_len}
use Rattle.std.specs.Char.{is_ascii_digit}
use Rattle.std.proofs.lemmas.Bool.{cond-true, cond-false, true≢false, cases_Bool, eqb-true, ne_eqb, or_cases, or_parts, false_from_ne_true, or_from}
use Rattle.std.proofs.lemmas.Bool.Decides.{nat_tests}
use Rattle.std.proofs.lemmas.List.{drop_more, drop-drop, take_min}
use Rattle.cs_syntax.specs.declared.token.Kind.{Kind}
use Rattle.cs_syntax.specs.declared.token.Kind.TheVariants as kind
use Rattle.cs_syntax.specs.Expression.{number_tok, text_tok, param_tok, word_tok, sign_tok}
use Rattle.cs_syntax.specs.Escapes.{is_quote, decoded}
use Rattle.cs_syntax.specs.Signs.{sign_of}
use Rattle.cs_syntax.specs.Lex.{is_letter, is_word_byte, is_word, is_number, digits_then, follows_whole, param_name, meaning, IsLongest, NoToken}
use Rattle.cs_syntax.specs.Ends.{kind_of, quoted, sign_len, past_word, number_end, token_end}
use Rattle.cs_syntax.proofs.Fronts.{Longest, longest-same, longest-behind, longest-number, longest-word, number_bytes}
use Rattle.cs_syntax.proofs.Signed.{is_sign, longest-sign, no-sign, each-sign}
use Rattle.cs_syntax.proofs.Decoded.{is_text, longest-text, no-text}
use Rattle.cs_syntax.proofs.NumberEnds.{number_end-is}
use Rattle.cs_syntax.proofs.Placed.{first-behind}

-- a byte with which a word, a number, a text or a parameter begins
abbrev special : ℕ → Bool
special b = is_letter b || is_ascii_digit b || is_quote b || b == 36

sign-first : (b : ℕ) (s : List ℕ) → special b ≡ true → is_sign (b ∷ s) ≡ false
sign-first b s h =
    false_from_ne_true (is_sign (b ∷ s)) (λ e. true≢false (sym h
    ∙ not_so (special b) (each-sign (λ xs. not (special (get_or xs 0 0))) refl (b ∷ s) e)))
  where
    not_so : (t : Bool) → not t ≡ true → t ≡ false
    not_so true k = absurd (true≢false (sym k))
    not_so false k = refl

digit-no-letter : (b : ℕ) → is_ascii_digit b ≡ true → is_letter b ≡ false
digit-no-letter b h = grind (arith, nat_tests)

zero-is-digit : (b : ℕ) → is_ascii_digit b ≡ false → (b == 48) ≡ false
zero-is-digit b h = grind (arith, nat_tests)

none-of : {A : Type 0} (o : Option A) → is_some o ≡ false → o ≡ None
none-of None h = refl
none-of (Some x) h = absurd (true≢false h)

map-none : {A B : Type 0} (f : A → B) (o : Option A) → is_some o ≡ false → option_map f o ≡ None
map-none f None h = refl
map-none f (Some x) h = absurd (true≢false h)

-- the kinds of a letter, a digit, a quote, a `$`
kind-letter : (b : ℕ) → is_letter b ≡ true → kind_of b ≡ kind.Word
kind-letter b h = cond-true _ _ _ h

kind-digit : (b : ℕ) → is_ascii_digit b ≡ true → kind_of b ≡ kind.Number
kind-digit b h = cond-false _ _ _ (digit-no-letter b h) ∙ cond-true _ _ _ h

kind-quote : (b : ℕ) → is_quote b ≡ true → kind_of b ≡ kind.Text
kind-quote b h =
    ⊎_elim (λ e. ap kind_of (eqb-true b 34 e)) (λ e. ap kind_of (eqb-true b 39 e))
    (or_cases (b == 34) (b == 39) h)

kind-dollar : (b : ℕ) → (b == 36) ≡ true → kind_of b ≡ kind.Param
kind-dollar b h = ap kind_of (eqb-true b 36 h)

kind-other : (b : ℕ) → special b ≡ false → kind_of b ≡ kind.Sign
kind-other b h =
    let x = or_parts (is_letter b || is_ascii_digit b || is_quote b) (b == 36) h in
    let y = or_parts (is_letter b || is_ascii_digit b) (is_quote b) x.0 in
    let z = or_parts (is_letter b) (is_ascii_digit b) y.0 in
    cond-false _ _ _ z.0 ∙ cond-false _ _ _ z.1 ∙ cond-false _ _ _ y.1 ∙ cond-false _ _ _ x.1

-- a kind is that of the first byte, or no token of the kind begins with it
pub kind-or-none : (k : Kind) (b : ℕ) → (k ≡ kind_of b) ⊎ ((s : List ℕ) → meaning k (b ∷ s) ≡ None)
kind-or-none kind.Word b =
    ⊎_elim (λ h. inl (sym (kind-letter b h))) (λ h. inr (λ s. cond-false _ _ _ (ap (λ t. t
    && list_all is_word_byte s) h))) (cases_Bool (is_letter b))
kind-or-none kind.Number b =
    ⊎_elim (λ h. inl (sym (kind-digit b h)))
    (λ h. inr (λ s. cond-false _ _ _ (cond-false _ _ _ (zero-is-digit b h)
    ∙ ap (λ t. t && digits_then follows_whole s) h))) (cases_Bool (is_ascii_digit b))
kind-or-none kind.Text b =
    ⊎_elim (λ h. inl (sym (kind-quote b h)))
    (λ h. inr (λ s. ap (option_map text_tok) (cond-false _ _ _ h))) (cases_Bool (is_quote b))
kind-or-none kind.Param b =
    ⊎_elim (λ h. inl (sym (kind-dollar b h)))
    (λ h. inr (λ s. ap (option_map param_tok) (cond-false _ _ _ (ap (λ t. t
    && is_word s) h)))) (cases_Bool (b == 36))
kind-or-none kind.Sign b =
    ⊎_elim (λ h. inr (λ s. map-none sign_tok (sign_of (b ∷ s)) (sign-first b s h)))
    (λ h. inl (sym (kind-other b h))) (cases_Bool (special b))

-- whether a source is a token of the kind
abbrev pub is_kind : Kind → List ℕ → Bool
is_kind k s = is_some (meaning k s)

pub is_kind-nil : (k : Kind) → meaning k [] ≡ None
is_kind-nil kind.Word = refl
is_kind-nil kind.Number = refl
is_kind-nil kind.Text = refl
is_kind-nil kind.Param = refl
is_kind-nil kind.Sign = refl

longest-of : (b : ℕ) (s : List ℕ) (k : Kind) (n : ℕ) → k ≡ kind_of b →
    Longest (is_kind k) (b ∷ s) n → IsLongest (b ∷ s) k n
longest-of b s k n is l = record { within = l.within; is_token = l.passes; no_longer = more }
  where
    more : (j : Kind) (m : ℕ) → n < m → m ≤ length (b ∷ s) → meaning j (take m (b ∷ s)) ≡ None
    more j zero a c = absurd (omega arith)
    more j (suc m) a c =
        ⊎_elim (λ e. subst (λ x. meaning x (take (suc m) (b ∷ s)) ≡ None) (is
        ∙ sym e) (none-of (meaning k (take (suc m) (b ∷ s))) (l.stops (suc m) a c)))
        (λ h. h (take m s)) (kind-or-none j b)

none-at : (b : ℕ) (s : List ℕ) (k : Kind) → k ≡ kind_of b →
    ((m : ℕ) → m ≤ length (b ∷ s) → is_kind k (take m (b ∷ s)) ≡ false) → NoToken (b ∷ s)
none-at b s k is h j n =
    subst (λ (x : List ℕ). meaning j x
    ≡ None) (take_min n (b ∷ s)) (within (min n (length (b ∷ s))) (omega arith))
  where
    within : (m : ℕ) → m ≤ length (b ∷ s) → meaning j (take m (b ∷ s)) ≡ None
    within zero c = is_kind-nil j
    within (suc m) c =
        ⊎_elim (λ e. subst (λ x. meaning x (take (suc m) (b ∷ s)) ≡ None) (is
        ∙ sym e) (none-of (meaning k (take (suc m) (b ∷ s))) (h (suc m) c)))
        (λ g. g (take m s)) (kind-or-none j b)

is_some-cond : {A : Type 0} (t : Bool) (x : A) → is_some (cond t (Some x) None) ≡ t
is_some-cond true x = refl
is_some-cond false x = refl

is_some-map : {A B : Type 0} (f : A → B) (o : Option A) → is_some (option_map f o) ≡ is_some o
is_some-map f None = refl
is_some-map f (Some x) = refl

-- what the end that the code finds says of the text from there on
pub record Found (s : List ℕ) (at : ℕ) (k : Kind) (end : ℕ) : Type 0 where
  pub longest : IsLongest (drop at s) k (end - at)
  pub more : at < end
  pub within : end ≤ length s

-- either no token begins at `at`, or the longest ends there
abbrev pub Spoken : List ℕ → ℕ → Kind → Option ℕ → Type 0
Spoken s at k o = MatchOption o (NoToken (drop at s)) (Found s at k)

-- the longest token of each kind, with its first byte in front
word-longest : (b : ℕ) (t : List ℕ) → is_letter b ≡ true →
    Longest (is_kind kind.Word) (b ∷ t) (suc (prefix_len is_word_byte t))
word-longest b t h =
    longest-same (is_kind kind.Word) is_word (b ∷ t) _
    (λ m. is_some-cond (is_word (take m (b ∷ t))) (word_tok (take m (b ∷ t)))) (longest-word b t h)

number-longest : (b : ℕ) (t : List ℕ) → is_ascii_digit b ≡ true →
    Longest (is_kind kind.Number) (b ∷ t) (number_bytes (b ∷ t))
number-longest b t h =
    longest-same (is_kind kind.Number) is_number (b ∷ t) _
    (λ m. is_some-cond (is_number (take m (b ∷ t))) (number_tok (take m (b ∷ t))))
    (longest-number b t h)

text-longest : (b : ℕ) (t : List ℕ) (n : ℕ) → is_quote b ≡ true → quoted b 0 t ≡ Some n →
    Longest (is_kind kind.Text) (b ∷ t) (suc n)
text-longest b t n h e =
    longest-same (is_kind kind.Text) is_text (b ∷ t) _
    (λ m. is_some-map text_tok (decoded (take m (b ∷ t)))) (longest-text b t n h e)

sign-longest : (b : ℕ) (t : List ℕ) → 0 < sign_len b (get_or t 0 0) (get_or t 1 0) →
    Longest (is_kind kind.Sign) (b ∷ t) (sign_len b (get_or t 0 0) (get_or t 1 0))
sign-longest b t h =
    longest-same (is_kind kind.Sign) is_sign (b ∷ t) _
    (λ m. is_some-map sign_tok (sign_of (take m (b ∷ t)))) (longest-sign b t h)

dollar-word : (b : ℕ) (xs : List ℕ) → (b == 36) ≡ true → is_kind kind.Param (b ∷ xs) ≡ is_word xs
dollar-word b xs h =
    is_some-map param_tok (param_name (b ∷ xs)) ∙ is_some-cond (b == 36 && is_word xs) xs
    ∙ ap (λ t. t && is_word xs) h

param-longest : (b c : ℕ) (t : List ℕ) → (b == 36) ≡ true → is_letter c ≡ true →
    Longest (is_kind kind.Param) (b ∷ c ∷ t) (suc (suc (prefix_len is_word_byte t)))
param-longest b c t h k =
    longest-behind (is_kind kind.Param) is_word b (c ∷ t) _ (λ xs. dollar-word b xs h)
    (longest-word c t k)

no-word : (t : List ℕ) (m : ℕ) → is_letter (get_or t 0 0) ≡ false → is_word (take m t) ≡ false
no-word t zero h = refl
no-word [] (suc m) h = refl
no-word (c ∷ t) (suc m) h = ap (λ x. x && list_all is_word_byte (take m t)) h

no-param : (b : ℕ) (t : List ℕ) → (b == 36) ≡ true → is_letter (get_or t 0 0) ≡ false → (m : ℕ) →
    m ≤ length (b ∷ t) → is_kind kind.Param (take m (b ∷ t)) ≡ false
no-param b t h k zero l = refl
no-param b t h k (suc m) l = dollar-word b (take m t) h ∙ no-word t m k

module _ (s : List ℕ) (at : ℕ) (l : at < length s) where
  found : (b : ℕ) (t : List ℕ) (k : Kind) (n end : ℕ) → drop at s ≡ b ∷ t → k ≡ kind_of b →
      0 < n → end ≡ at + n → Longest (is_kind k) (b ∷ t) n → Found s at k end
  found b t k n end cut is some size h =
      let e : end - at ≡ n = omega arith in
      let whole = ap length cut in record {
        longest = subst (λ m. IsLongest (drop at s) k m) (sym e)
            (subst (λ (x : List ℕ). IsLongest x k n) (sym cut) (longest-of b t k n is h));
        more = omega arith;
        within = omega (arith, h.within, length-drop at s, whole);
      }

  missing : (b : ℕ) (t : List ℕ) (k : Kind) → drop at s ≡ b ∷ t → k ≡ kind_of b →
      ((m : ℕ) → m ≤ length (b ∷ t) → is_kind k (take m (b ∷ t)) ≡ false) → NoToken (drop at s)
  missing b t k cut is h = subst NoToken (sym cut) (none-at b t k is h)

  text-spoken : (b : ℕ) (t : List ℕ) → drop at s ≡ b ∷ t → is_quote b ≡ true → (o : Option ℕ) →
      quoted b 0 t ≡ o → Spoken s at kind.Text (option_map (λ n. at + 1 + n) o)
  text-spoken b t cut h None e =
      missing b t kind.Text cut (sym (kind-quote b h))
      (λ m a. is_some-map text_tok (decoded (take m (b ∷ t))) ∙ no-text b t h e m a)
  text-spoken b t cut h (Some n) e =
      found b t kind.Text (suc n) (at + 1 + n) cut (sym (kind-quote b h)) (omega arith)
      (omega arith) (text-longest b t n h e)

  param-spoken : (b : ℕ) (t : List ℕ) → drop at s ≡ b ∷ t → t ≡ drop (at + 1) s →
      (b == 36) ≡ true → (c : Bool) → is_letter (get_or t 0 0) ≡ c →
      Spoken s at kind.Param (cond c (Some (past_word s (at + 2))) None)
  param-spoken b [] cut rest h true e = absurd (true≢false (sym e))
  param-spoken b (c ∷ t) cut rest h true e =
      let size : past_word s (at + 2) ≡ at + suc (suc (prefix_len is_word_byte t)) =
      ap (λ (x : List ℕ). at + 2 + prefix_len is_word_byte x) (ap (λ n. drop n s) (omega arith)
      ∙ sym (drop-drop 1 (at + 1) s) ∙ ap (drop 1) (sym rest)) ∙ omega arith in
      found b (c ∷ t) kind.Param _ (past_word s (at + 2)) cut (sym (kind-dollar b h))
      (omega arith) size (param-longest b c t h e)
  param-spoken b t cut rest h false e =
      missing b t kind.Param cut (sym (kind-dollar b h)) (no-param b t h e)

  sign-spoken : (b : ℕ) (t : List ℕ) → drop at s ≡ b ∷ t → kind_of b ≡ kind.Sign → (n : ℕ) →
      sign_len b (get_or t 0 0) (get_or t 1 0) ≡ n →
      Spoken s at kind.Sign (cond (n == 0) None (Some (at + n)))
  sign-spoken b t cut h zero e =
      missing b t kind.Sign cut (sym h) (λ m a. is_some-map sign_tok (sign_of (take m (b ∷ t)))
      ∙ no-sign b t e m a)
  sign-spoken b t cut h (suc n) e =
      subst (Spoken s at kind.Sign) (sym (cond-false _ _ _ (ne_eqb (suc n) 0 (λ x. omega arith))))
      (found b t kind.Sign (suc n) (at + suc n) cut (sym h) (omega arith) refl
      (subst (Longest (is_kind kind.Sign) (b ∷ t)) e (sign-longest b t (omega arith))))

  first : (k : Kind) → kind_of (get_or s at 0) ≡ k → Spoken s at k (token_end s at k) →
      Spoken s at (kind_of (get_or s at 0)) (token_end s at (kind_of (get_or s at 0)))
  first k e h = subst (λ x. Spoken s at x (token_end s at x)) (sym e) h

  number-size : number_end s at ≡ at + number_bytes (get_or s at 0 ∷ drop (at + 1) s)
  number-size = number_end-is s at ∙ ap (λ (x : List ℕ). at + number_bytes x) (drop_more s at 0 l)

  number-some : is_ascii_digit (get_or s at 0) ≡ true →
      0 < number_bytes (get_or s at 0 ∷ drop (at + 1) s)
  number-some h =
      positive (number_bytes (get_or s at 0 ∷ drop (at + 1) s))
      (number-longest (get_or s at 0) (drop (at + 1) s) h)
    where
      positive : (n : ℕ) → Longest (is_kind kind.Number) (get_or s at 0 ∷ drop (at + 1) s) n →
          0 < n
      positive zero x = absurd (true≢false (sym x.passes))
      positive (suc n) x = omega arith

  second : get_or (drop (at + 1) s) 0 0 ≡ get_or s (at + 1) 0
  second = first-behind s (at + 1)

  third : get_or (drop (at + 1) s) 1 0 ≡ get_or s (at + 2) 0
  third = let e : at + 1 + 1 ≡ at + 2 = omega arith in
      get_or-drop (at + 1) s 1 0 ∙ ap (λ n. get_or s n 0) e

  -- the token at `at`, or that none begins there
  pub spoken : Spoken s at (kind_of (get_or s at 0)) (token_end s at (kind_of (get_or s at 0)))
  spoken =
      let cut = drop_more s at 0 l in
      let b = get_or s at 0 in
      let t = drop (at + 1) s in
      ⊎_elim
      (λ h. first kind.Word (kind-letter b h)
      (found b t kind.Word _ (past_word s (at + 1)) cut (sym (kind-letter b h)) (omega arith)
      (omega arith) (word-longest b t h)))
      (λ no_letter. ⊎_elim
      (λ h. first kind.Number (kind-digit b h)
      (found b t kind.Number _ (number_end s at) cut (sym (kind-digit b h)) (number-some h)
      number-size (number-longest b t h)))
      (λ no_digit. ⊎_elim
      (λ h. first kind.Text (kind-quote b h) (text-spoken b t cut h (quoted b 0 t) refl))
      (λ no_quote. ⊎_elim
      (λ h. first kind.Param (kind-dollar b h)
      (subst (λ x. Spoken s at kind.Param
      (cond (is_letter x) (Some (past_word s (at + 2))) None)) second
      (param-spoken b t cut refl h _ refl)))
      (λ no_dollar.
      let other = kind-other b
      (or_from _ _ (or_from _ _ (or_from _ _ no_letter no_digit) no_quote) no_dollar) in
      first kind.Sign other
      (subst (λ n. Spoken s at kind.Sign (cond (n == 0) None (Some (at + n))))
      (λ i. sign_len b (second i) (third i))
      (sign-spoken b t cut other _ refl)))
      (cases_Bool (get_or s at 0 == 36)))
      (cases_Bool (is_quote (get_or s at 0))))
      (cases_Bool (is_ascii_digit (get_or s at 0))))
      (cases_Bool (is_letter (get_or s at 0)))
