-- A text token read from left to right: what was read so far, and what the rest means.
use Rattle.std.proofs.Common.{◌≡◌, ℕ, zero, suc, ◌+◌, ◌-◌, ◌<◌, ◌≤◌, List, [], ◌∷◌, ◌++◌, length, drop, take, get_or, Bool, true, false, cond, Option, Some, None, option_map, is_some, ⊎_elim, refl, sym, ap, ◌∙◌, arith, append_assoc, encode_utf8}
use Rattle.std.specs.Prelude.{◌==◌, not, option_and_then}
use Rattle.std.specs.List.{prefix_len}
use Rattle.std.specs.Str.{IsCharBoundary}
use Rattle.std.proofs.lemmas.Bool.{cond-true, cond-false, true≢false, cases_lt, cases_eq, eq-eqb, ne_eqb, and_parts, not-true, and_from}
use Rattle.std.proofs.lemmas.Option.{same_Some}
use Rattle.std.proofs.lemmas.List.{at_drop_more, at_drop_all, drop-drop, append-nil}
use Rattle.std.proofs.lemmas.List.Sums.{prefix_len-drop_yes}
use Rattle.cs_syntax.specs.Escapes.{is_quote, escape, piece, ended, content, decoded}
use Rattle.cs_syntax.specs.Ends.{placed, escape_at, is_plain, past_plain}
use Rattle.cs_syntax.proofs.Placed.{escape-is}

-- the text so far and what the source means from `at` on are what the whole source means
pub record Means (s : List ℕ) (at : ℕ) (text : List ℕ) : Type 0 where
  pub same : option_map (λ (r : List ℕ). text ++ r) (content (get_or s 0 0) 0 (drop at s))
      ≡ decoded s

nil-append : (o : Option (List ℕ)) → option_map (λ (r : List ℕ). [] ++ r) o ≡ o
nil-append None = refl
nil-append (Some r) = refl

append-append : (a b : List ℕ) (o : Option (List ℕ)) →
    option_map (λ (r : List ℕ). a ++ r) (option_map (λ (r : List ℕ). b ++ r) o)
    ≡ option_map (λ (r : List ℕ). a ++ b ++ r) o
append-append a b None = refl
append-append a b (Some r) = ap (λ (x : List ℕ). Some x) (sym (append_assoc a b r))

pub means-start : (s : List ℕ) → is_some (decoded s) ≡ true → Means s 1 []
means-start [] h = absurd (true≢false (sym h))
means-start (q ∷ s) h = record { same = nil-append (content q 0 s) ∙ by_quote (is_quote q) h }
  where
    by_quote : (t : Bool) → is_some (cond t (content q 0 s) None) ≡ true →
        content q 0 s ≡ cond t (content q 0 s) None
    by_quote true k = refl
    by_quote false k = absurd (true≢false (sym k))

pub starts-quoted : (s : List ℕ) → is_some (decoded s) ≡ true →
    (0 < length s) × (is_quote (get_or s 0 0) ≡ true)
starts-quoted [] h = absurd (true≢false (sym h))
starts-quoted (q ∷ s) h = (omega arith, by_quote (is_quote q) h)
  where
    by_quote : (t : Bool) → is_some (cond t (content q 0 s) None) ≡ true → t ≡ true
    by_quote true k = refl
    by_quote false k = k

pub means-inside : (s : List ℕ) (at : ℕ) (text : List ℕ) → Means s at text →
    is_some (decoded s) ≡ true → at < length s
means-inside s at text m h = ⊎_elim (λ l. l) (λ l. absurd (none l)) (cases_lt at (length s))
  where
    none : length s ≤ at → ⊥
    none l = true≢false (sym h ∙ ap is_some (sym m.same)
        ∙ ap (λ o. is_some (option_map (λ (r : List ℕ). text
        ++ r) o)) (at_drop_all (content (get_or s 0 0) 0) s at l))

content-taken : (q k : ℕ) (t : List ℕ) → content q k t ≡ content q 0 (drop k t)
content-taken q zero t = refl
content-taken q (suc k) [] = refl
content-taken q (suc k) (b ∷ t) = content-taken q k t

abbrev rest_of : ℕ → List ℕ → Option (List ℕ × ℕ) → Option (List ℕ)
rest_of q t o =
    option_and_then (λ (p : List ℕ × ℕ). option_map (λ (r : List ℕ). p.0 ++ r) (content q p.1 t)) o

content-at : (s : List ℕ) (q at : ℕ) → at < length s → (get_or s at 0 ≡ q → ⊥) →
    content q 0 (drop at s) ≡ rest_of q (drop (at + 1) s) (piece (get_or s at 0) (drop (at + 1) s))
content-at s q at l other =
    at_drop_more (content q 0) s at 0 l ∙ cond-false _ _ _ (ne_eqb _ _ other)

piece-escape : (s : List ℕ) (at : ℕ) → get_or s at 0 ≡ 92 →
    piece (get_or s at 0) (drop (at + 1) s)
    ≡ option_map (λ (e : ℕ × ℕ). (encode_utf8 e.0, e.1)) (escape (drop (at + 1) s))
piece-escape s at is = cond-true _ _ _ (eq-eqb _ _ is)

-- an escape is read
pub means-escape : (s : List ℕ) (at : ℕ) (text : List ℕ) (c end : ℕ) → Means s at text →
    at < length s → (get_or s at 0 ≡ get_or s 0 0 → ⊥) → get_or s at 0 ≡ 92 →
    Some (c, end) ≡ escape_at s (at + 1) → Means s end (text ++ encode_utf8 c)
means-escape s at text c end m l other is e =
    record { same = by_escape (escape (drop (at + 1) s)) refl (escape-is s (at + 1) ∙ sym e) }
  where
    q : ℕ
    q = get_or s 0 0

    by_parts : (x : ℕ × ℕ) → escape (drop (at + 1) s) ≡ Some x →
        ◌≡◌ {A = ℕ × ℕ} (x.0, at + 1 + x.1) (c, end) →
        option_map (λ (r : List ℕ). text ++ encode_utf8 c
        ++ r) (content (get_or s 0 0) 0 (drop end s)) ≡ decoded s
    by_parts x own same =
        let char : x.0 ≡ c = ap (λ (y : ℕ × ℕ). y.0) same in
        let place : at + 1 + x.1 ≡ end = ap (λ (y : ℕ × ℕ). y.1) same in
        let further : content (get_or s 0 0) x.1 (drop (at + 1) s)
        ≡ content (get_or s 0 0) 0 (drop end s) =
        content-taken (get_or s 0 0) x.1 (drop (at + 1) s)
        ∙ ap (content (get_or s 0 0) 0) (drop-drop x.1 (at + 1) s
        ∙ ap (λ n. drop n s) place) in
        let here : content (get_or s 0 0) 0 (drop at s)
        ≡ option_map (λ (r : List ℕ). encode_utf8 c
        ++ r) (content (get_or s 0 0) 0 (drop end s)) =
        content-at s (get_or s 0 0) at l other
        ∙ ap (rest_of (get_or s 0 0) (drop (at + 1) s)) (piece-escape s at is
        ∙ ap (option_map (λ (y : ℕ × ℕ). (encode_utf8 y.0, y.1))) own)
        ∙ (λ i. option_map (λ (r : List ℕ). encode_utf8 (char i) ++ r) (further i)) in
        sym (append-append text (encode_utf8 c) (content (get_or s 0 0) 0 (drop end s)))
        ∙ ap (option_map (λ (r : List ℕ). text ++ r)) (sym here) ∙ m.same

    by_escape : (o : Option (ℕ × ℕ)) → escape (drop (at + 1) s) ≡ o →
        placed (at + 1) o ≡ Some (c, end) →
        option_map (λ (r : List ℕ). text ++ encode_utf8 c
        ++ r) (content (get_or s 0 0) 0 (drop end s)) ≡ decoded s
    by_escape None own same = absurd (let x : None ≡ Some (c, end) = same in cc)
    by_escape (Some x) own same = by_parts x own (same_Some _ _ same)

-- an escape stands wherever a `\` does
pub means-none : (s : List ℕ) (at : ℕ) (text : List ℕ) → Means s at text → at < length s →
    (get_or s at 0 ≡ get_or s 0 0 → ⊥) → get_or s at 0 ≡ 92 → None ≡ escape_at s (at + 1) →
    is_some (decoded s) ≡ true → ⊥
means-none s at text m l other is e h =
    by_escape (escape (drop (at + 1) s)) refl (escape-is s (at + 1) ∙ sym e)
  where
    by_escape : (o : Option (ℕ × ℕ)) → escape (drop (at + 1) s) ≡ o → placed (at + 1) o ≡ None → ⊥
    by_escape None own same =
        let here : content (get_or s 0 0) 0 (drop at s) ≡ None =
        content-at s (get_or s 0 0) at l other
        ∙ ap (rest_of (get_or s 0 0) (drop (at + 1) s)) (piece-escape s at is
        ∙ ap (option_map (λ (y : ℕ × ℕ). (encode_utf8 y.0, y.1))) own) in
        true≢false (sym h ∙ ap is_some (sym m.same)
        ∙ ap (λ o. is_some (option_map (λ (r : List ℕ). text ++ r) o)) here)
    by_escape (Some x) own same = absurd (let y : Some (x.0, at + 1 + x.1) ≡ None = same in cc)

-- bytes that stand for themselves
plain-run : (q : ℕ) (t : List ℕ) →
    content q 0 t ≡ option_map (λ (r : List ℕ). take (prefix_len (is_plain q) t) t
    ++ r) (content q 0 (drop (prefix_len (is_plain q) t) t))
plain-run q [] = refl
plain-run q (b ∷ t) = by_plain (is_plain q b) refl (plain-run q t)
  where
    front : (n : ℕ) (o : Option (List ℕ)) →
        option_map (λ (r : List ℕ). (b ∷ []) ++ r) (option_map (λ (r : List ℕ). take n t ++ r) o)
        ≡ option_map (λ (r : List ℕ). (b ∷ take n t) ++ r) o
    front n None = refl
    front n (Some r) = refl

    by_plain : (c : Bool) → is_plain q b ≡ c →
        content q 0 t ≡ option_map (λ (r : List ℕ). take (prefix_len (is_plain q) t) t
        ++ r) (content q 0 (drop (prefix_len (is_plain q) t) t))
        → content q 0 (b ∷ t)
        ≡ option_map (λ (r : List ℕ). take (cond c (1 + prefix_len (is_plain q) t) 0) (b ∷ t)
        ++ r) (content q 0 (drop (cond c (1 + prefix_len (is_plain q) t) 0) (b ∷ t)))
    by_plain true is ih =
        let parts = and_parts (not (b == q)) (not (b == 92)) is in
        let n = prefix_len (is_plain q) t in
        let size : suc n ≡ 1 + n = omega arith in
        cond-false _ _ _ (not-true (b == q) parts.0)
        ∙ ap (rest_of q t) (cond-false _ _ _ (not-true (b == 92) parts.1))
        ∙ ap (option_map (λ (r : List ℕ). (b ∷ []) ++ r)) ih
        ∙ front n (content q 0 (drop n t))
        ∙ ap (λ k. option_map (λ (r : List ℕ). take k (b ∷ t)
        ++ r) (content q 0 (drop k (b ∷ t)))) size
    by_plain false is ih = sym (nil-append (content q 0 (b ∷ t)))

pub means-plain : (s : List ℕ) (at : ℕ) (text : List ℕ) (end : ℕ) → Means s at text →
    at < length s → (get_or s at 0 ≡ get_or s 0 0 → ⊥) → (get_or s at 0 ≡ 92 → ⊥) →
    end ≡ past_plain s (get_or s 0 0) (at + 1) → Means s end (text ++ take (end - at) (drop at s))
means-plain s at text end m l no_quote no_escape e =
    let q = get_or s 0 0 in
    let plain : is_plain q (get_or s at 0) ≡ true =
    and_from _ _ (ap not (ne_eqb _ _ no_quote)) (ap not (ne_eqb _ _ no_escape)) in
    let n = prefix_len (is_plain q) (drop at s) in
    let more = prefix_len-drop_yes (is_plain q) s at 0 l plain in
    let size : n ≡ end - at = omega (arith, more, e) in
    let place : at + n ≡ end = omega (arith, more, e) in
    let here : content q 0 (drop at s)
    ≡ option_map (λ (r : List ℕ). take (end - at) (drop at s)
    ++ r) (content q 0 (drop end s)) =
    plain-run q (drop at s)
    ∙ (λ i. option_map (λ (r : List ℕ). take (size i) (drop at s)
    ++ r) (content q 0 ((drop-drop n at s ∙ ap (λ k. drop k s) place) i))) in record {
      same = sym (append-append text (take (end - at) (drop at s)) (content q 0 (drop end s)))
          ∙ ap (option_map (λ (r : List ℕ). text ++ r)) (sym here) ∙ m.same;
    }

-- the quote ends the text
pub means-end : (s : List ℕ) (at : ℕ) (text : List ℕ) → Means s at text → at < length s →
    get_or s at 0 ≡ get_or s 0 0 → is_some (decoded s) ≡ true → decoded s ≡ Some text
means-end s at text m l is h =
    by_ended (drop (at + 1) s) (sym m.same
    ∙ ap (option_map (λ (r : List ℕ). text
    ++ r)) (at_drop_more (content (get_or s 0 0) 0) s at 0 l ∙ cond-true _ _ _ (eq-eqb _ _ is)))
  where
    by_ended : (t : List ℕ) → decoded s ≡ option_map (λ (r : List ℕ). text ++ r) (ended t) →
        decoded s ≡ Some text
    by_ended [] e = e ∙ ap (λ (x : List ℕ). Some x) (append-nil text)
    by_ended (b ∷ t) e = absurd (true≢false (sym h ∙ ap is_some e))

-- a quote and a `\` are characters of one byte
pub plain-boundary : (s : List ℕ) (end : ℕ) → get_or s 0 0 < 128 → end ≤ length s →
    (end < length s → (get_or s end 0 ≡ get_or s 0 0 → ⊥) → get_or s end 0 ≡ 92) →
    IsCharBoundary s end
plain-boundary s end quote within stops = (
  within,
  λ l high. ⊎_elim (λ e. absurd (omega arith)) (λ other. let e = stops l other in
      absurd (omega (arith, e))) (cases_eq (get_or s end 0) (get_or s 0 0)),
)
