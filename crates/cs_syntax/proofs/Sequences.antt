-- The tokens of a text are one list: each is told by its place, and each step of the code reads
-- one more.
use Rattle.std.proofs.Common.{◌≡◌, ℕ, zero, suc, ◌+◌, ◌-◌, ◌<◌, ◌≤◌, List, [], ◌∷◌, ◌++◌, length, drop, take, get_or, All, true, Option, Some, None, is_some, ⊎_elim, IsUtf8, refl, sym, ap, ◌∙◌, subst, arith, length-drop, length-take-le, get_or-drop, get_or-take, true≢false}
use Rattle.std.specs.Str.{IsCharBoundary}
use Rattle.std.proofs.lemmas.Bool.{cases_order}
use Rattle.std.proofs.lemmas.Str.{IsCharBoundary-before_ascii, IsCharBoundary-after_ascii}
use Rattle.cs_syntax.specs.declared.token.Kind.{Kind}
use Rattle.cs_syntax.specs.declared.token.Token.{Token}
use Rattle.cs_syntax.specs.Lex.{meaning, past_blank, IsLongest, NoToken, Reads, IsTokenOf, Ascend, source}
use Rattle.cs_syntax.specs.Ends.{kind_of, token_end}
use Rattle.cs_syntax.proofs.FirstBytes.{kind-or-none, is_kind-nil, Found, Spoken, spoken}
use Rattle.cs_syntax.proofs.AsciiEnds.{ascii-ends, last}

some-none : {A : Type 0} (o : Option A) → is_some o ≡ true → o ≡ None → ⊥
some-none None h e = true≢false (sym h)
some-none (Some x) h e = cc

-- a token is not empty
pub longest-some : (s : List ℕ) (k : Kind) (n : ℕ) → IsLongest s k n → 0 < n
longest-some s k zero l = absurd (some-none (meaning k []) l.is_token (is_kind-nil k))
longest-some s k (suc n) l = omega arith

one-kind : (k j : Kind) (s : List ℕ) → is_some (meaning k s) ≡ true →
    is_some (meaning j s) ≡ true → k ≡ j
one-kind k j [] h g = absurd (some-none (meaning k []) h (is_kind-nil k))
one-kind k j (b ∷ s) h g = of_first k h ∙ sym (of_first j g)
  where
    of_first : (i : Kind) → is_some (meaning i (b ∷ s)) ≡ true → i ≡ kind_of b
    of_first i e =
        ⊎_elim (λ is. is) (λ none. absurd (some-none (meaning i (b ∷ s)) e (none s)))
        (kind-or-none i b)

one-length : (s : List ℕ) (k j : Kind) (n m : ℕ) → IsLongest s k n → IsLongest s j m → n ≡ m
one-length s k j n m a b =
    ⊎_elim (λ e. e)
    (λ o. ⊎_elim
    (λ l. absurd (some-none (meaning j (take m s)) b.is_token (a.no_longer j m l b.within)))
    (λ l. absurd (some-none (meaning k (take n s)) a.is_token (b.no_longer k n l a.within))) o)
    (cases_order n m)

-- one longest token stands at a place
one-longest : (s : List ℕ) (k j : Kind) (n m : ℕ) → IsLongest s k n → IsLongest s j m →
    (k ≡ j) × (n ≡ m)
one-longest s k j n m a b =
    let e = one-length s k j n m a b in (
      one-kind k j (take n s) a.is_token (subst (λ x. is_some (meaning j (take x s))
          ≡ true) (sym e) b.is_token),
      e,
    )

-- where a token stands, and how far it reaches
pub record Placed (s : List ℕ) (at : ℕ) (t : Token) : Type 0 where
  pub after : at ≤ t.from
  pub more : t.from < t.to
  pub within : t.to ≤ length s

placed : (s : List ℕ) (at : ℕ) (t : Token) → t.from ≡ past_blank s at →
    IsLongest (drop t.from s) t.kind (t.to - t.from) → Placed s at t
placed s at t e l =
    let some = longest-some (drop t.from s) t.kind (t.to - t.from) l in
    let size = length-drop t.from s in record {
      after = omega arith;
      more = omega arith;
      within = omega (arith, l.within);
    }

same-token : (t u : Token) → t.kind ≡ u.kind → t.from ≡ u.from → t.to ≡ u.to → t ≡ u
same-token t u k f e = λ i. record { kind = k i; from = f i; to = e i }

one-token : (s : List ℕ) (at : ℕ) (t u : Token) → t.from ≡ past_blank s at →
    IsLongest (drop t.from s) t.kind (t.to - t.from)
    → u.from ≡ past_blank s at → IsLongest (drop u.from s) u.kind (u.to - u.from) → t ≡ u
one-token s at t u e l f m =
    let from : t.from ≡ u.from = e ∙ sym f in
    let both = one-longest (drop u.from s) t.kind u.kind (t.to - t.from) (u.to - u.from)
    (subst (λ x. IsLongest (drop x s) t.kind (t.to - t.from)) from l) m in
    let p = placed s at t e l in
    let q = placed s at u f m in
    let size = both.1 in
    same-token t u both.0 from (omega (arith, p.more, q.more, size, from))

no-longest : (s : List ℕ) (k : Kind) (n : ℕ) → NoToken s → IsLongest s k n → ⊥
no-longest s k n h l = some-none (meaning k (take n s)) l.is_token (h k n)

none-past : (s : List ℕ) (at : ℕ) (t : Token) → past_blank s at ≡ length s →
    t.from ≡ past_blank s at → IsLongest (drop t.from s) t.kind (t.to - t.from) → ⊥
none-past s at t e f l = let p = placed s at t f l in
    absurd (omega (arith, p.more, p.within, e, f))

-- the text has one list of tokens
pub one-list : (s : List ℕ) (at : ℕ) (ts us : List Token) (e f : ℕ) → Reads s at ts e →
    past_blank s e ≡ length s → Reads s at us f → past_blank s f ≡ length s → ts ≡ us
one-list s at [] [] e f r a q b = refl
one-list s at [] (u ∷ us) e f r a q b = absurd (none-past s at u (ap (past_blank s) r ∙ a) q.0 q.1)
one-list s at (t ∷ ts) [] e f r a q b = absurd (none-past s at t (ap (past_blank s) q ∙ b) r.0 r.1)
one-list s at (t ∷ ts) (u ∷ us) e f r a q b =
    let same = one-token s at t u r.0 r.1 q.0 q.1 in
    let to : u.to ≡ t.to = ap (λ (x : Token). x.to) (sym same) in
    λ i. same i ∷ one-list s t.to ts us e f r.2 a (subst (λ x. Reads s x us f) to q.2) b i

-- a text with a bad place has no tokens
pub no-list : (s : List ℕ) (at : ℕ) (ts us : List Token) (e f : ℕ) → Reads s at ts e →
    past_blank s e ≡ length s → Reads s at us f → past_blank s f < length s →
    NoToken (drop (past_blank s f) s) → ⊥
no-list s at [] [] e f r a q b none = let g : past_blank s f ≡ length s =
    ap (past_blank s) (sym q ∙ r) ∙ a in absurd (omega (arith, g))
no-list s at [] (u ∷ us) e f r a q b none = none-past s at u (ap (past_blank s) r ∙ a) q.0 q.1
no-list s at (t ∷ ts) [] e f r a q b none =
    no-longest (drop t.from s) t.kind (t.to - t.from)
    (subst (λ x. NoToken (drop x s)) (ap (past_blank s) (sym q) ∙ sym r.0) none) r.1
no-list s at (t ∷ ts) (u ∷ us) e f r a q b none =
    let to : u.to ≡ t.to = ap (λ (x : Token). x.to) (sym (one-token s at t u r.0 r.1 q.0 q.1)) in
    no-list s t.to ts us e f r.2 a (subst (λ x. Reads s x us f) to q.2) b none

-- one bad place
pub one-bad : (s : List ℕ) (at : ℕ) (ts us : List Token) (e f : ℕ) → Reads s at ts e →
    NoToken (drop (past_blank s e) s) → Reads s at us f → NoToken (drop (past_blank s f) s) →
    past_blank s e ≡ past_blank s f
one-bad s at [] [] e f r a q b = ap (past_blank s) (sym r ∙ q)
one-bad s at [] (u ∷ us) e f r a q b =
    absurd (no-longest (drop u.from s) u.kind (u.to - u.from)
    (subst (λ x. NoToken (drop x s)) (ap (past_blank s) (sym r) ∙ sym q.0) a) q.1)
one-bad s at (t ∷ ts) [] e f r a q b =
    absurd (no-longest (drop t.from s) t.kind (t.to - t.from)
    (subst (λ x. NoToken (drop x s)) (ap (past_blank s) (sym q) ∙ sym r.0) b) r.1)
one-bad s at (t ∷ ts) (u ∷ us) e f r a q b =
    let to : u.to ≡ t.to = ap (λ (x : Token). x.to) (sym (one-token s at t u r.0 r.1 q.0 q.1)) in
    one-bad s t.to ts us e f r.2 a (subst (λ x. Reads s x us f) to q.2) b

-- one token more is read
pub reads-push : (s : List ℕ) (at : ℕ) (ts : List Token) (e : ℕ) (t : Token) → Reads s at ts e →
    t.from ≡ past_blank s e → IsLongest (drop t.from s) t.kind (t.to - t.from) →
    Reads s at (ts ++ t ∷ []) t.to
reads-push s at [] e t r f l = (f ∙ ap (past_blank s) (sym r), l, refl)
reads-push s at (u ∷ ts) e t r f l = (r.0, r.1, reads-push s u.to ts e t r.2 f l)

-- a token that is read is one of the text
pub token-of : (s : List ℕ) (at : ℕ) (t : Token) → IsUtf8 s → t.from ≡ past_blank s at →
    IsLongest (drop t.from s) t.kind (t.to - t.from) → IsTokenOf s t
token-of s at t utf8 e l =
    let p = placed s at t e l in
    let ends = ascii-ends t.kind (source s t) l.is_token in
    let size : length (source s t) ≡ t.to - t.from =
    length-take-le (t.to - t.from) (drop t.from s) l.within in
    let front : get_or (source s t) 0 0 ≡ get_or s t.from 0 =
    get_or-take (t.to - t.from) (drop t.from s) 0 0 (omega (arith, p.more))
    ∙ get_or-drop t.from s 0 0 ∙ ap (λ n. get_or s n 0) (omega arith) in
    let place : t.from + (length (source s t) - 1) ≡ t.to - 1 = omega (arith, size, p.more) in
    let back : last (source s t) ≡ get_or s (t.to - 1) 0 =
    get_or-take (t.to - t.from) (drop t.from s) (length (source s t) - 1) 0
    (omega (arith, size, p.more)) ∙ get_or-drop t.from s (length (source s t) - 1) 0
    ∙ ap (λ n. get_or s n 0) place in
    let behind : t.to - 1 + 1 ≡ t.to = omega (arith, p.more) in record {
      not_empty = p.more;
      begins = IsCharBoundary-before_ascii s t.from (omega (arith, p.more, p.within))
          (omega (arith, front, ends.first_is));
      ends = subst (IsCharBoundary s) behind
          (IsCharBoundary-after_ascii s (t.to - 1) utf8 (omega (arith, p.more, p.within))
          (omega (arith, back, ends.last_is)));
      is_meant = l.is_token;
    }

pub each-token : (s : List ℕ) (at : ℕ) (ts : List Token) (e : ℕ) → IsUtf8 s → Reads s at ts e →
    All (IsTokenOf s) ts
each-token s at [] e utf8 r k d l = absurd (omega arith)
each-token s at (t ∷ ts) e utf8 r zero d l = token-of s at t utf8 r.0 r.1
each-token s at (t ∷ ts) e utf8 r (suc k) d l = each-token s t.to ts e utf8 r.2 k d (omega arith)

pub reads-ascend : (s : List ℕ) (at : ℕ) (ts : List Token) (e : ℕ) → Reads s at ts e → Ascend ts
reads-ascend s at [] e r = tt
reads-ascend s at (t ∷ []) e r = tt
reads-ascend s at (t ∷ u ∷ ts) e r =
    ((placed s t.to u r.2.0 r.2.1).after, reads-ascend s t.to (u ∷ ts) e r.2)

-- as many tokens as there are bytes, at most
pub reads-count : (s : List ℕ) (at : ℕ) (ts : List Token) (e : ℕ) → Reads s at ts e →
    at ≤ length s → (at + length ts ≤ e) × (e ≤ length s)
reads-count s at [] e r l = (omega (arith, r), omega (arith, r))
reads-count s at (t ∷ ts) e r l =
    let p = placed s at t r.0 r.1 in
    let ih = reads-count s t.to ts e r.2 p.within in
    (omega (arith, p.after, p.more, ih.0), ih.1)

-- what the code finds at a place
spoken-at : (s bs : List ℕ) (at : ℕ) (k : Kind) (o : Option ℕ) → bs ≡ s → at < length s →
    k ≡ kind_of (get_or bs at 0) → o ≡ token_end bs at k → Spoken s at k o
spoken-at s bs at k o same l is e =
    let kind = is ∙ ap (λ (x : List ℕ). kind_of (get_or x at 0)) same in
    subst (Spoken s at k) (sym (e ∙ ap (λ (x : List ℕ). token_end x at k) same))
    (subst (λ x. Spoken s at x (token_end s at x)) (sym kind) (spoken s at l))

pub found-at : (s bs : List ℕ) (at : ℕ) (k : Kind) (to : ℕ) → bs ≡ s → at < length s →
    k ≡ kind_of (get_or bs at 0) → Some to ≡ token_end bs at k → Found s at k to
found-at s bs at k to same l is e = spoken-at s bs at k (Some to) same l is e

pub missing-at : (s bs : List ℕ) (at : ℕ) (k : Kind) → bs ≡ s → at < length s →
    k ≡ kind_of (get_or bs at 0) → None ≡ token_end bs at k → NoToken (drop at s)
missing-at s bs at k same l is e = spoken-at s bs at k None same l is e
