-- How far a text reaches: up to its closing quote.
use Rattle.std.proofs.Common.{◌≡◌, ℕ, zero, suc, ◌+◌, ◌<◌, List, [], ◌∷◌, length, drop, get_or, Bool, true, false, cond, Option, Some, None, option_map, refl, sym, ap, ◌∙◌, arith}
use Rattle.std.specs.Prelude.{◌==◌, option_and_then, encode_utf8}
use Rattle.std.proofs.lemmas.Option.{same_Some}
use Rattle.std.proofs.lemmas.Bool.{ne_eqb, cond-false}
use Rattle.std.proofs.lemmas.List.{at_drop_more, drop-drop}
use Rattle.cs_syntax.specs.Escapes.{escape, piece}
use Rattle.cs_syntax.specs.Ends.{quoted, placed, escape_at, piece_end, text_end}
use Rattle.cs_syntax.proofs.Placed.{escape-is}

-- the place behind a byte or an escape
piece-end : (s : List ℕ) (i : ℕ) →
    piece_end s i
    ≡ option_map (λ (p : List ℕ × ℕ). i + 1 + p.1) (piece (get_or s i 0) (drop (i + 1) s))
piece-end s i = by_escape (get_or s i 0 == 92)
  where
    behind : (e : Option (ℕ × ℕ)) → option_map (λ (x : ℕ × ℕ). x.1) (placed (i + 1) e)
        ≡ option_map (λ (p : List ℕ × ℕ). i + 1 + p.1)
        (option_map (λ (x : ℕ × ℕ). (encode_utf8 x.0, x.1)) e)
    behind None = refl
    behind (Some x) = refl

    by_escape : (t : Bool) →
        cond t (option_map (λ (x : ℕ × ℕ). x.1) (escape_at s (i + 1))) (Some (i + 1))
        ≡ option_map (λ (p : List ℕ × ℕ). i + 1 + p.1)
        (cond t (option_map (λ (x : ℕ × ℕ). (encode_utf8 x.0, x.1)) (escape (drop (i + 1) s)))
        (Some (get_or s i 0 ∷ [], 0)))
    by_escape true = ap (option_map (λ (x : ℕ × ℕ). x.1)) (sym (escape-is s (i + 1)))
        ∙ behind (escape (drop (i + 1) s))
    by_escape false = ap (λ (n : ℕ). Some n) (omega arith)

-- the bytes of an escape are passed over
quoted-taken : (q k : ℕ) (t : List ℕ) →
    quoted q k t ≡ option_map (λ n. k + n) (quoted q 0 (drop k t))
quoted-taken q zero t = by_end (quoted q 0 t)
  where
    by_end : (o : Option ℕ) → o ≡ option_map (λ n. 0 + n) o
    by_end None = refl
    by_end (Some n) = ap (λ (m : ℕ). Some m) (omega arith)
quoted-taken q (suc k) [] = refl
quoted-taken q (suc k) (b ∷ t) = ap (option_map suc) (quoted-taken q k t)
    ∙ by_end (quoted q 0 (drop k t))
  where
    by_end : (o : Option ℕ) → option_map suc (option_map (λ n. k + n) o)
        ≡ option_map (λ n. suc k + n) o
    by_end None = refl
    by_end (Some n) = ap (λ (m : ℕ). Some m) (omega arith)

quoted-at : (s : List ℕ) (q i : ℕ) → i < length s → (get_or s i 0 ≡ q → ⊥) →
    quoted q 0 (drop i s)
    ≡ option_and_then (λ (p : List ℕ × ℕ). option_map suc (quoted q p.1 (drop (i + 1) s)))
    (piece (get_or s i 0) (drop (i + 1) s))
quoted-at s q i l other = at_drop_more (quoted q 0) s i 0 l ∙ cond-false _ _ _ (ne_eqb _ _ other)

-- where no byte and no escape is read, the text has no end
pub text_end-none : (s : List ℕ) (q i : ℕ) → i < length s → (get_or s i 0 ≡ q → ⊥) →
    piece_end s i ≡ None → text_end s q i ≡ None
text_end-none s q i l other is = ap (option_map (λ n. i + n)) (quoted-at s q i l other)
    ∙ by_piece (piece (get_or s i 0) (drop (i + 1) s)) (sym (piece-end s i) ∙ is)
  where
    by_piece : (o : Option (List ℕ × ℕ)) → option_map (λ (p : List ℕ × ℕ). i + 1 + p.1) o ≡ None →
        option_map (λ n. i + n)
        (option_and_then (λ (p : List ℕ × ℕ). option_map suc (quoted q p.1 (drop (i + 1) s))) o)
        ≡ None
    by_piece None h = refl
    by_piece (Some p) h = absurd cc

pub text_end-more : (s : List ℕ) (q i end : ℕ) → i < length s → (get_or s i 0 ≡ q → ⊥) →
    piece_end s i ≡ Some end → text_end s q end ≡ text_end s q i
text_end-more s q i end l other is =
    sym (ap (option_map (λ n. i + n)) (quoted-at s q i l other)
    ∙ by_piece (piece (get_or s i 0) (drop (i + 1) s)) (sym (piece-end s i) ∙ is))
  where
    sums : (k : ℕ) → i + 1 + k ≡ end → (o : Option ℕ) →
        option_map (λ n. i + n) (option_map suc (option_map (λ n. k + n) o))
        ≡ option_map (λ n. end + n) o
    sums k e None = refl
    sums k e (Some n) = ap (λ (m : ℕ). Some m) (omega arith)

    by_piece : (o : Option (List ℕ × ℕ)) → option_map (λ (p : List ℕ × ℕ). i + 1 + p.1) o
        ≡ Some end → option_map (λ n. i + n)
        (option_and_then (λ (p : List ℕ × ℕ). option_map suc (quoted q p.1 (drop (i + 1) s))) o)
        ≡ text_end s q end
    by_piece None h = absurd cc
    by_piece (Some p) h =
        let e : i + 1 + p.1 ≡ end = same_Some _ _ h in
        ap (λ (o : Option ℕ). option_map (λ n. i + n) (option_map suc o))
        (quoted-taken q p.1 (drop (i + 1) s))
        ∙ sums p.1 e (quoted q 0 (drop p.1 (drop (i + 1) s)))
        ∙ ap (λ (t : List ℕ). option_map (λ n. end + n) (quoted q 0 t)) (drop-drop p.1 (i + 1) s
        ∙ ap (λ (n : ℕ). drop n s) e)
