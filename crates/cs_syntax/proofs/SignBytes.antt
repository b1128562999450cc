-- Which sign a source is, by how many bytes it has.
use Rattle.std.proofs.Common.{◌≡◌, ℕ, ◌<◌, List, [], ◌∷◌, length, get_or, Bool, true, false, cond, Option, Some, None, option_map, refl, sym, ap, ◌∙◌, arith, bytes_eq, nat_cmp}
use Rattle.std.specs.Prelude.{◌==◌, find}
use Rattle.std.specs.Ordering.{is_eq}
use Rattle.std.specs.Cmp.Lexicographic.{slice_cmp}
use Rattle.std.proofs.lemmas.Map.Text.{is_eq-slice_cmp}
use Rattle.std.proofs.Math.Bool.{and-false, and-true}
use Rattle.cs_syntax.specs.declared.sign.Sign.{Sign}
use Rattle.cs_syntax.specs.declared.sign.Sign.TheVariants as sign
use Rattle.cs_syntax.specs.Signs.{signs, sign_of}
use Rattle.cs_syntax.specs.Ends.{three_of, two_of}
use Rattle.cs_syntax.proofs.Signed.{and-assoc}

abbrev by_bytes : List ℕ → List (List ℕ × Sign) → Option Sign
by_bytes s rows =
    option_map (λ (r : List ℕ × Sign). r.1) (find (λ (r : List ℕ × Sign). bytes_eq r.0 s) rows)

abbrev by_order : List ℕ → List (List ℕ × Sign) → Option Sign
by_order s rows =
    option_map (λ (r : List ℕ × Sign). r.1)
    (find (λ (r : List ℕ × Sign). is_eq (slice_cmp nat_cmp r.0 s)) rows)

same_rows : (s : List ℕ) (rows : List (List ℕ × Sign)) → by_order s rows ≡ by_bytes s rows
same_rows s [] = refl
same_rows s (r ∷ rows) =
    by_first (is_eq (slice_cmp nat_cmp r.0 s)) (bytes_eq r.0 s) (is_eq-slice_cmp r.0 s)
    (same_rows s rows)
  where
    by_first : (t u : Bool) → t ≡ u → by_order s rows ≡ by_bytes s rows
        → option_map (λ (x : List ℕ × Sign). x.1)
        (cond t (Some r) (find (λ (x : List ℕ × Sign). is_eq (slice_cmp nat_cmp x.0 s)) rows))
        ≡ option_map (λ (x : List ℕ × Sign). x.1)
        (cond u (Some r) (find (λ (x : List ℕ × Sign). bytes_eq x.0 s) rows))
    by_first true true e h = refl
    by_first false false e h = h
    by_first true false e h = cc
    by_first false true e h = cc

through : {A B : Type 0} (f : A → B) (b : Bool) (x y : Option A) →
    option_map f (cond b x y) ≡ cond b (option_map f x) (option_map f y)
through f true x y = refl
through f false x y = refl

of_two : (a b : ℕ) → sign_of (a ∷ b ∷ []) ≡ two_of a b
of_two a b = same_rows (a ∷ b ∷ []) signs ∙ simp (and-false, and-true, through)

of_three : (a b c : ℕ) → sign_of (a ∷ b ∷ c ∷ []) ≡ three_of a b c
of_three a b c = same_rows (a ∷ b ∷ c ∷ []) signs
    ∙ simp (and-false, and-true, through)
    (ap (λ t. cond t (Some sign.DotDotDot) None) (and-assoc (46 == a) (46 == b) (46 == c)))

of_four : (a b c d : ℕ) (s : List ℕ) → sign_of (a ∷ b ∷ c ∷ d ∷ s) ≡ None
of_four a b c d s = same_rows (a ∷ b ∷ c ∷ d ∷ s) signs ∙ simp and-false

pub two_bytes : (s : List ℕ) → length s ≡ 2 → two_of (get_or s 0 0) (get_or s 1 0) ≡ sign_of s
two_bytes [] h = absurd (omega arith)
two_bytes (a ∷ []) h = absurd (omega arith)
two_bytes (a ∷ b ∷ []) h = sym (of_two a b)
two_bytes (a ∷ b ∷ c ∷ s) h = absurd (omega arith)

pub three_bytes : (s : List ℕ) → length s ≡ 3 →
    three_of (get_or s 0 0) (get_or s 1 0) (get_or s 2 0) ≡ sign_of s
three_bytes [] h = absurd (omega arith)
three_bytes (a ∷ []) h = absurd (omega arith)
three_bytes (a ∷ b ∷ []) h = absurd (omega arith)
three_bytes (a ∷ b ∷ c ∷ []) h = sym (of_three a b c)
three_bytes (a ∷ b ∷ c ∷ d ∷ s) h = absurd (omega arith)

pub four_bytes : (s : List ℕ) → 3 < length s → None ≡ sign_of s
four_bytes [] h = absurd (omega arith)
four_bytes (a ∷ []) h = absurd (omega arith)
four_bytes (a ∷ b ∷ []) h = absurd (omega arith)
four_bytes (a ∷ b ∷ c ∷ []) h = absurd (omega arith)
four_bytes (a ∷ b ∷ c ∷ d ∷ s) h = sym (of_four a b c d s)
