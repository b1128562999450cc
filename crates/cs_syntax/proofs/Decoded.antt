-- The longest text token at the front of a text: it ends at the first quote that is not in an
-- escape.
use Rattle.std.proofs.Common.{◌≡◌, ℕ, zero, suc, ◌<◌, ◌≤◌, List, [], ◌∷◌, ◌++◌, length, drop, take, Bool, true, false, cond, Option, Some, None, option_map, is_some, refl, sym, ap, ◌∙◌, subst, arith, length-take-le, take-append-drop}
use Rattle.std.specs.Prelude.{◌==◌, option_and_then}
use Rattle.std.proofs.lemmas.Bool.{cond-true, cond-false, true≢false}
use Rattle.std.proofs.lemmas.Option.{same_Some, option_and_then_some}
use Rattle.cs_syntax.specs.Escapes.{is_quote, piece, ended, content, decoded}
use Rattle.cs_syntax.specs.Ends.{quoted}
use Rattle.cs_syntax.proofs.Fronts.{Longest}
use Rattle.cs_syntax.proofs.Locals.{piece-more, piece-cut}

-- the value of an `Option` that has one
some-of : {A : Type 0} (o : Option A) → is_some o ≡ true → (x : A) × (o ≡ Some x)
some-of None h = absurd (true≢false (sym h))
some-of (Some x) h = (x, refl)

is_some-map : {A B : Type 0} (f : A → B) (o : Option A) → is_some (option_map f o) ≡ is_some o
is_some-map f None = refl
is_some-map f (Some x) = refl

-- a value of a chain of two
map-some : (o : Option ℕ) (n : ℕ) → option_map suc o ≡ Some n →
    (m : ℕ) × (o ≡ Some m) × (suc m ≡ n)
map-some None n h = absurd cc
map-some (Some m) n h = (m, refl, same_Some _ _ h)

-- the quote stands behind the bytes of an escape, and within the text
quoted-taken : (q k : ℕ) (t : List ℕ) (n : ℕ) → quoted q k t ≡ Some n → (k < n) × (n ≤ length t)
quoted-taken q k [] n h = absurd cc
quoted-taken q (suc k) (b ∷ t) n h =
    let m = map-some (quoted q k t) n h in
    let ih = quoted-taken q k t m.0 m.1 in
    (omega (arith, m.2), omega (arith, m.2))
quoted-taken q zero (b ∷ t) n h = by_quote (b == q) h (λ k m e. quoted-taken q k t m e)
  where
    by_quote : (c : Bool) →
        cond c (Some 1) (option_and_then (λ (p : List ℕ × ℕ). option_map suc (quoted q p.1 t))
        (piece b t)) ≡ Some n
        → ((k m : ℕ) → quoted q k t ≡ Some m → (k < m) × (m ≤ length t)) →
        (0 < n) × (n ≤ length (b ∷ t))
    by_quote true g ih = let e : 1 ≡ n = same_Some _ _ g in (omega arith, omega arith)
    by_quote false g ih =
        option_and_then_some (λ (p : List ℕ × ℕ). option_map suc (quoted q p.1 t)) (piece b t) n g
        (λ p is k. let m = map-some (quoted q p.1 t) n k in let own = ih p.1 m.0 m.1 in
        (omega (arith, m.2), omega (arith, m.2)))

-- the text up to its quote means something
content-quoted : (q k : ℕ) (t : List ℕ) (n : ℕ) → quoted q k t ≡ Some n →
    is_some (content q k (take n t)) ≡ true
content-quoted q k [] n h = absurd cc
content-quoted q (suc k) (b ∷ t) n h =
    let m = map-some (quoted q k t) n h in
    subst (λ x. is_some (content q (suc k) (take x (b ∷ t)))
    ≡ true) m.2 (content-quoted q k t m.0 m.1)
content-quoted q zero (b ∷ t) n h = by_quote (b == q) refl h (λ k m e. content-quoted q k t m e)
  where
    rest : (o : Option (List ℕ × ℕ)) (xs : List ℕ) → Option (List ℕ)
    rest o xs = option_and_then (λ (p : List ℕ × ℕ). option_map (λ (text : List ℕ). p.0
        ++ text) (content q p.1 xs)) o

    by_piece : (b == q) ≡ false → (p : List ℕ × ℕ) → piece b t ≡ Some p →
        option_map suc (quoted q p.1 t) ≡ Some n
        → ((k m : ℕ) → quoted q k t ≡ Some m → is_some (content q k (take m t)) ≡ true) →
        is_some (content q 0 (take n (b ∷ t))) ≡ true
    by_piece c p is g ih =
        let m = map-some (quoted q p.1 t) n g in
        let own = quoted-taken q p.1 t m.0 m.1 in
        let same : piece b (take m.0 t) ≡ Some p = piece-cut b t p m.0 is (omega (arith, own.0)) in
        subst (λ x. is_some (content q 0 (take x (b ∷ t))) ≡ true) m.2
        (ap is_some (cond-false _ _ _ c)
        ∙ ap (λ (o : Option (List ℕ × ℕ)). is_some
        (option_and_then (λ (x : List ℕ × ℕ). option_map (λ (text : List ℕ). x.0
        ++ text) (content q x.1 (take m.0 t))) o)) same
        ∙ is_some-map (λ (text : List ℕ). p.0 ++ text) (content q p.1 (take m.0 t))
        ∙ ih p.1 m.0 m.1)

    by_quote : (c : Bool) → (b == q) ≡ c →
        cond c (Some 1) (option_and_then (λ (p : List ℕ × ℕ). option_map suc (quoted q p.1 t))
        (piece b t)) ≡ Some n
        → ((k m : ℕ) → quoted q k t ≡ Some m → is_some (content q k (take m t)) ≡ true) →
        is_some (content q 0 (take n (b ∷ t))) ≡ true
    by_quote true c g ih = let e : 1 ≡ n = same_Some _ _ g in
        subst (λ x. is_some (content q 0 (take x (b ∷ t)))
        ≡ true) e (ap is_some (cond-true _ _ _ c))
    by_quote false c g ih =
        option_and_then_some (λ (p : List ℕ × ℕ). option_map suc (quoted q p.1 t)) (piece b t) n g
        (λ p is k. by_piece c p is k ih)

-- a text that means something ends at its quote, whatever follows
quoted-content : (q k : ℕ) (t r : List ℕ) → is_some (content q k t) ≡ true →
    quoted q k (t ++ r) ≡ Some (length t)
quoted-content q k [] r h = absurd (true≢false (sym h))
quoted-content q (suc k) (b ∷ t) r h = ap (option_map suc) (quoted-content q k t r h)
quoted-content q zero (b ∷ t) r h = by_quote (b == q) refl h (λ k g. quoted-content q k t r g)
  where
    of_ended : (xs : List ℕ) → is_some (ended xs) ≡ true → Some 1 ≡ Some (length (b ∷ xs))
    of_ended [] g = refl
    of_ended (x ∷ xs) g = absurd (true≢false (sym g))

    by_piece : (o : Option (List ℕ × ℕ)) → piece b t ≡ o →
        is_some (option_and_then (λ (p : List ℕ × ℕ). option_map (λ (text : List ℕ). p.0
        ++ text) (content q p.1 t)) o) ≡ true
        → ((k : ℕ) → is_some (content q k t) ≡ true → quoted q k (t ++ r) ≡ Some (length t))
        → option_and_then (λ (p : List ℕ × ℕ). option_map suc (quoted q p.1 (t ++ r))) (piece b (t
        ++ r)) ≡ Some (length (b ∷ t))
    by_piece None is g ih = absurd (true≢false (sym g))
    by_piece (Some p) is g ih =
        ap (option_and_then (λ (x : List ℕ × ℕ). option_map suc (quoted q x.1 (t
        ++ r)))) (piece-more b t p r is)
        ∙ ap (option_map suc) (ih p.1 (sym (is_some-map (λ (text : List ℕ). p.0
        ++ text) (content q p.1 t)) ∙ g))

    by_quote : (c : Bool) → (b == q) ≡ c →
        is_some (cond c (ended t)
        (option_and_then (λ (p : List ℕ × ℕ). option_map (λ (text : List ℕ). p.0
        ++ text) (content q p.1 t)) (piece b t))) ≡ true
        → ((k : ℕ) → is_some (content q k t) ≡ true → quoted q k (t ++ r) ≡ Some (length t)) →
        quoted q 0 (b ∷ t ++ r) ≡ Some (length (b ∷ t))
    by_quote true c g ih = cond-true _ _ _ c ∙ of_ended t g
    by_quote false c g ih = cond-false _ _ _ c ∙ by_piece (piece b t) refl g ih

abbrev pub is_text : List ℕ → Bool
is_text s = is_some (decoded s)

text-front : (q : ℕ) (t : List ℕ) (m : ℕ) → is_quote q ≡ true → m ≤ length t →
    is_some (content q 0 (take m t)) ≡ true → quoted q 0 t ≡ Some m
text-front q t m quote l h =
    ap (quoted q 0) (sym (take-append-drop m t)) ∙ quoted-content q 0 (take m t) (drop m t) h
    ∙ ap (λ (n : ℕ). Some n) (length-take-le m t l)

-- no other front of the text is a text token than that up to the quote
other-text : (q : ℕ) (t : List ℕ) (m : ℕ) → is_quote q ≡ true → m ≤ length (q ∷ t) →
    ((n : ℕ) → suc n ≡ m → quoted q 0 t ≡ Some n → ⊥) → is_text (take m (q ∷ t)) ≡ false
other-text q t zero quote l h = refl
other-text q t (suc m) quote l h =
    ap is_some (cond-true _ _ _ quote) ∙ by_content (is_some (content q 0 (take m t))) refl
  where
    by_content : (c : Bool) → is_some (content q 0 (take m t)) ≡ c →
        is_some (content q 0 (take m t)) ≡ false
    by_content true is = absurd (h m refl (text-front q t m quote (omega arith) is))
    by_content false is = is

pub longest-text : (q : ℕ) (t : List ℕ) (n : ℕ) → is_quote q ≡ true → quoted q 0 t ≡ Some n →
    Longest is_text (q ∷ t) (suc n)
longest-text q t n quote h = record {
  within = let own = quoted-taken q 0 t n h in omega (arith, own.1);
  passes = ap is_some (cond-true _ _ _ quote) ∙ content-quoted q 0 t n h;
  stops = λ m a b. other-text q t m quote b (λ k e g. let same : k ≡ n =
      same_Some _ _ (sym g ∙ h) in absurd (omega arith));
}

pub no-text : (q : ℕ) (t : List ℕ) → is_quote q ≡ true → quoted q 0 t ≡ None → (m : ℕ) →
    m ≤ length (q ∷ t) → is_text (take m (q ∷ t)) ≡ false
no-text q t quote h m l =
    other-text q t m quote l (λ k e g. absurd (let none : None ≡ Some k = sym h ∙ g in cc))
