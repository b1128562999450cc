-- What stands first, where something is behind it.
use Rattle.std.proofs.Common.{◌≡◌, ℕ, zero, suc, List, [], ◌∷◌, Bool, true, false, Option, Some, None, refl, sym, ap, ◌∙◌, subst}
use Rattle.std.proofs.lemmas.Bool.{eqb-true}
use Rattle.std.proofs.lemmas.Slice.Eq.{bytes_eq-Decides}
use Rattle.std.specs.Prelude.{if◌then◌else◌}
use Rattle.std.specs.Option.{option_map, option_and_then}
use Rattle.std.specs.Str.{bytes_eq}
use Rattle.cs_syntax.specs.declared.sign.Sign.{Sign}
use Rattle.cs_syntax.specs.declared.sign.Sign.TheVariants as sign
use Rattle.cs_syntax.specs.Expression.{Tok, number_tok, text_tok, param_tok, word_tok, sign_tok}
use Rattle.cs_grammar.specs.Spells.{is_keyword}
use Rattle.cs_grammar.specs.Reading.{ordinal, same_sign, after, after_sign, after_word, after_keyword, after_attribute, after_caret}

-- the signs in the order of their numbers, and the sign of a number
abbrev signs : List Sign
signs =
    sign.FatArrow ∷ sign.EqEq ∷ sign.Ne ∷ sign.Le ∷ sign.Ge ∷ sign.Lt ∷ sign.Gt ∷ sign.AndAnd ∷
    sign.OrOr ∷ sign.Pipe ∷ sign.Not ∷ sign.Plus ∷ sign.Minus ∷ sign.StarStar ∷ sign.Star ∷ sign.Slash ∷
    sign.Percent ∷ sign.DotDotDot ∷ sign.DotDot ∷ sign.Dot ∷ sign.Arrow ∷ sign.OpenBracket ∷ sign.CloseBracket ∷ sign.OpenBrace ∷
    sign.CloseBrace ∷ sign.OpenParen ∷ sign.CloseParen ∷ sign.Comma ∷ sign.ColonColon ∷ sign.Colon ∷ sign.At ∷ sign.Caret ∷ []

abbrev sign_in : List Sign → ℕ → Sign
sign_in [] n = sign.Caret
sign_in (s ∷ ss) zero = s
sign_in (s ∷ ss) (suc n) = sign_in ss n

abbrev sign_at : ℕ → Sign
sign_at n = sign_in signs n

sign_at_ordinal : (s : Sign) → sign_at (ordinal s) ≡ s
sign_at_ordinal sign.FatArrow = refl
sign_at_ordinal sign.EqEq = refl
sign_at_ordinal sign.Ne = refl
sign_at_ordinal sign.Le = refl
sign_at_ordinal sign.Ge = refl
sign_at_ordinal sign.Lt = refl
sign_at_ordinal sign.Gt = refl
sign_at_ordinal sign.AndAnd = refl
sign_at_ordinal sign.OrOr = refl
sign_at_ordinal sign.Pipe = refl
sign_at_ordinal sign.Not = refl
sign_at_ordinal sign.Plus = refl
sign_at_ordinal sign.Minus = refl
sign_at_ordinal sign.StarStar = refl
sign_at_ordinal sign.Star = refl
sign_at_ordinal sign.Slash = refl
sign_at_ordinal sign.Percent = refl
sign_at_ordinal sign.DotDotDot = refl
sign_at_ordinal sign.DotDot = refl
sign_at_ordinal sign.Dot = refl
sign_at_ordinal sign.Arrow = refl
sign_at_ordinal sign.OpenBracket = refl
sign_at_ordinal sign.CloseBracket = refl
sign_at_ordinal sign.OpenBrace = refl
sign_at_ordinal sign.CloseBrace = refl
sign_at_ordinal sign.OpenParen = refl
sign_at_ordinal sign.CloseParen = refl
sign_at_ordinal sign.Comma = refl
sign_at_ordinal sign.ColonColon = refl
sign_at_ordinal sign.Colon = refl
sign_at_ordinal sign.At = refl
sign_at_ordinal sign.Caret = refl

pub same_sign_same : (s t : Sign) → same_sign s t ≡ true → s ≡ t
same_sign_same s t h = sym (sign_at_ordinal s) ∙ ap sign_at (eqb-true (ordinal s) (ordinal t) h)
    ∙ sign_at_ordinal t

chosen : {A : Type 0} (b : Bool) {r s : A} → (if b then Some r else None) ≡ Some s →
    (b ≡ true) × (r ≡ s)
chosen true h = (refl, cc)
chosen false h = absurd (cc)

refused : {A : Type 0} (b : Bool) {r s : A} → (if b then None else Some r) ≡ Some s →
    (b ≡ false) × (r ≡ s)
refused true h = absurd (cc)
refused false h = (refl, cc)

some_same : {A : Type 0} {x y : A} → Some x ≡ Some y → x ≡ y
some_same h = cc

-- a sign
pub after_is : (s : Sign) (ts : List Tok) {r : List Tok} → after s ts ≡ Some r →
    ts ≡ sign_tok s ∷ r
after_is s [] h = absurd (cc)
after_is s (number_tok n ∷ ts) h = absurd (cc)
after_is s (text_tok n ∷ ts) h = absurd (cc)
after_is s (param_tok n ∷ ts) h = absurd (cc)
after_is s (word_tok n ∷ ts) h = absurd (cc)
after_is s (sign_tok t ∷ ts) {r = r} h =
    let c = chosen (same_sign s t) h in
    let e : s ≡ t = same_sign_same s t c.0 in
    let d : ts ≡ r = c.1 in
    cc

-- a sign of a table
pub record Signed {A : Type 0} (φ : Sign →
    Option A) (ts : List Tok) (a : A) (r : List Tok) : Type 0 where
  pub sign : Sign
  pub is : ts ≡ sign_tok sign ∷ r
  pub means : φ sign ≡ Some a

mapped : {A : Type 0} (x : Option A) (r : List Tok) {a : A} {s : List Tok} →
    option_map {U = A × List Tok} (λ b. (b, r)) x ≡ Some (a, s) → (x ≡ Some a) × (r ≡ s)
mapped (Some b) r h =
    let p = some_same h in
    (ap Some (ap (λ z. z.0) p), ap (λ z. z.1) p)
mapped None r h = absurd (cc)

pub after_sign_is : {A : Type 0} (φ : Sign → Option A) (ts : List Tok) {a : A} {r : List Tok} →
    after_sign φ ts ≡ Some (a, r) → Signed φ ts a r
after_sign_is φ [] h = absurd (cc)
after_sign_is φ (number_tok n ∷ ts) h = absurd (cc)
after_sign_is φ (text_tok n ∷ ts) h = absurd (cc)
after_sign_is φ (param_tok n ∷ ts) h = absurd (cc)
after_sign_is φ (word_tok n ∷ ts) h = absurd (cc)
after_sign_is φ (sign_tok t ∷ ts) h =
    let m = mapped (φ t) ts h in
    record { sign = t; is = ap (λ z. sign_tok t ∷ z) m.1; means = m.0 }

-- a word, a keyword, and a word that is no keyword
pub after_word_is : (ts : List Tok) {r : List Tok} {w : List ℕ} → after_word ts ≡ Some (w, r) →
    ts ≡ word_tok w ∷ r
after_word_is [] h = absurd (cc)
after_word_is (number_tok n ∷ ts) h = absurd (cc)
after_word_is (text_tok n ∷ ts) h = absurd (cc)
after_word_is (param_tok n ∷ ts) h = absurd (cc)
after_word_is (word_tok v ∷ ts) {r = r} {w = w} h =
    let p = some_same h in
    let e : v ≡ w = ap (λ z. z.0) p in
    let d : ts ≡ r = ap (λ z. z.1) p in
    cc
after_word_is (sign_tok t ∷ ts) h = absurd (cc)

pub after_keyword_is : (k : List ℕ) (ts : List Tok) {r : List Tok} → after_keyword k ts ≡ Some r →
    ts ≡ word_tok k ∷ r
after_keyword_is k [] h = absurd (cc)
after_keyword_is k (number_tok n ∷ ts) h = absurd (cc)
after_keyword_is k (text_tok n ∷ ts) h = absurd (cc)
after_keyword_is k (param_tok n ∷ ts) h = absurd (cc)
after_keyword_is k (word_tok w ∷ ts) {r = r} h =
    let c = chosen (bytes_eq w k) h in
    let e : w ≡ k = (bytes_eq-Decides w k).0 c.0 in
    let d : ts ≡ r = c.1 in
    cc
after_keyword_is k (sign_tok t ∷ ts) h = absurd (cc)

pub record IsAttribute (ts : List Tok) (w : List ℕ) (r : List Tok) : Type 0 where
  pub is : ts ≡ word_tok w ∷ r
  pub free : is_keyword w ≡ false

pub after_attribute_is : (ts : List Tok) {r : List Tok} {w : List ℕ} →
    after_attribute ts ≡ Some (w, r) → IsAttribute ts w r
after_attribute_is [] h = absurd (cc)
after_attribute_is (number_tok n ∷ ts) h = absurd (cc)
after_attribute_is (text_tok n ∷ ts) h = absurd (cc)
after_attribute_is (param_tok n ∷ ts) h = absurd (cc)
after_attribute_is (word_tok v ∷ ts) {r = r} {w = w} h =
    let c = refused (is_keyword v) h in
    let e : v ≡ w = ap (λ z. z.0) c.1 in
    let d : ts ≡ r = ap (λ z. z.1) c.1 in
    record { is = cc; free = subst (λ z. is_keyword z ≡ false) e c.0 }
after_attribute_is (sign_tok t ∷ ts) h = absurd (cc)

-- `.` and `^`
pub after_caret_is : (ts : List Tok) {r : List Tok} → after_caret ts ≡ Some r →
    ts ≡ sign_tok sign.Dot ∷ sign_tok sign.Caret ∷ r
after_caret_is ts {r = r} h = by_dot (after sign.Dot ts) refl h
  where
    by_dot : (x : Option (List Tok)) → after sign.Dot ts ≡ x →
        option_and_then (after sign.Caret) x ≡ Some r →
        ts ≡ sign_tok sign.Dot ∷ sign_tok sign.Caret ∷ r
    by_dot (Some q) i j =
        after_is sign.Dot ts i ∙ ap (λ z. sign_tok sign.Dot ∷ z) (after_is sign.Caret q j)
    by_dot None i j = absurd (cc)

-- where one stands first, no other does
pub signs_apart : (s t : Sign) (ts : List Tok) {r : List Tok} → after t ts ≡ Some r →
    same_sign s t ≡ false → after s ts ≡ None
signs_apart s t ts {r = r} h i =
    ap (after s) (after_is t ts h) ∙ ap (λ b. if b then Some r else None) i

pub no_sign : {A : Type 0} (φ : Sign → Option A) (k : List ℕ) (ts : List Tok) {r : List Tok} →
    after_keyword k ts ≡ Some r → after_sign φ ts ≡ None
no_sign φ k ts h = ap (after_sign φ) (after_keyword_is k ts h)

pub no_word : (s : Sign) (ts : List Tok) {r : List Tok} {w : List ℕ} →
    after_word ts ≡ Some (w, r) → after s ts ≡ None
no_word s ts h = ap (after s) (after_word_is ts h)

pub keywords_apart : (j k : List ℕ) (ts : List Tok) {r : List Tok} → after_keyword k ts ≡ Some r →
    bytes_eq k j ≡ false → after_keyword j ts ≡ None
keywords_apart j k ts {r = r} h i = ap (after_keyword j) (after_keyword_is k ts h)
    ∙ ap (λ b. if b then Some r else None) i

-- a sign of a table that stands first
pub sign_found : {A : Type 0} (φ : Sign → Option A) (s : Sign) (r : List Tok) {a : A} →
    φ s ≡ Some a → after_sign φ (sign_tok s ∷ r) ≡ Some (a, r)
sign_found {A = A} φ s r h = ap (option_map {U = A × List Tok} (λ b. (b, r))) h
