-- The end of a number at a place of a text, by the bytes from there on.
use Rattle.std.proofs.Common.{◌≡◌, ℕ, ◌+◌, List, drop, get_or, Bool, true, false, cond, refl, sym, ap, ◌∙◌, arith}
use Rattle.std.specs.Prelude.{◌==◌, ◌||◌, nat_lt}
use Rattle.std.proofs.lemmas.Bool.Decides.{nat_tests}
use Rattle.std.proofs.lemmas.List.{drop-drop}
use Rattle.cs_syntax.specs.Ends.{past_digits, past_sign, end_or, exponent_end, fraction_end, number_end}
use Rattle.cs_syntax.proofs.Fronts.{digits, sign_bytes, exponent_bytes, fraction_bytes, number_bytes}
use Rattle.cs_syntax.proofs.Placed.{first-behind}

-- a choice of two ends is the place and the choice of two lengths
cond-add : (at : ℕ) (t : Bool) (m n x y : ℕ) → m ≡ at + x → n ≡ at + y →
    cond t m n ≡ at + cond t x y
cond-add at true m n x y h k = h
cond-add at false m n x y h k = k

past_sign-is : (s : List ℕ) (at : ℕ) → past_sign s at ≡ at + sign_bytes (drop at s)
past_sign-is s at =
    cond-add at (get_or s at 0 == 43 || get_or s at 0 == 45) (at + 1) at 1 0 refl (omega arith)
    ∙ ap (λ b. at + cond (b == 43 || b == 45) 1 0) (sym (first-behind s at))

some-digits : (a d : ℕ) → nat_lt a (a + d) ≡ nat_lt 0 d
some-digits a d = grind (arith, nat_tests)

-- the end of digits that stand k bytes further
end_or-is : (s : List ℕ) (at k : ℕ) →
    end_or s at (at + k)
    ≡ at + cond (nat_lt 0 (digits (drop k (drop at s)))) (k + digits (drop k (drop at s))) 0
end_or-is s at k =
    let further = drop-drop k at s in
    let d = digits (drop (at + k) s) in
    cond-add at (nat_lt (at + k) (at + k + d)) (at + k + d) at (k + d) 0 (omega arith)
    (omega arith)
    ∙ ap (λ t. at + cond t (k + d) 0) (some-digits (at + k) d)
    ∙ ap (λ (t : List ℕ). at + cond (nat_lt 0 (digits t)) (k + digits t) 0) (sym further)

exponent_end-is : (s : List ℕ) (at : ℕ) → exponent_end s at ≡ at + exponent_bytes (drop at s)
exponent_end-is s at =
    let t = drop at s in
    let one = drop-drop 1 at s in
    let k = sign_bytes (drop 1 t) in
    let from : past_sign s (at + 1) ≡ at + (1 + k) =
    past_sign-is s (at + 1) ∙ ap (λ (x : List ℕ). at + 1 + sign_bytes x) (sym one)
    ∙ omega arith in
    let sum : drop (1 + k) t ≡ drop k (drop 1 t) = sym (drop-drop k 1 t) in
    cond-add at (get_or s at 0 == 101
    || get_or s at 0 == 69) (end_or s at (past_sign s (at + 1))) at
    (cond (nat_lt 0 (digits (drop (1 + k) t))) (1 + k + digits (drop (1 + k) t)) 0) 0
    (ap (end_or s at) from ∙ end_or-is s at (1 + k)) (omega arith)
    ∙ (λ i. at + cond (first-is i == 101
    || first-is i == 69) (cond (nat_lt 0 (digits (sum i))) (1 + k + digits (sum i)) 0) 0)
  where
    first-is : get_or s at 0 ≡ get_or (drop at s) 0 0
    first-is = sym (first-behind s at)

fraction_end-is : (s : List ℕ) (at : ℕ) → fraction_end s at ≡ at + fraction_bytes (drop at s)
fraction_end-is s at =
    let t = drop at s in
    let one = drop-drop 1 at s in
    let d = digits (drop (at + 1) s) in
    let far : drop (at + 1 + d) s ≡ drop d (drop (at + 1) s) = sym (drop-drop d (at + 1) s) in
    cond-add at (get_or s at 0 == 46)
    (cond (nat_lt (at + 1) (at + 1 + d)) (exponent_end s (at + 1 + d)) at) (exponent_end s at)
    (cond (nat_lt (at + 1) (at + 1 + d)) (1 + d + exponent_bytes (drop (at + 1 + d) s)) 0)
    (exponent_bytes t)
    (cond-add at (nat_lt (at + 1) (at + 1 + d)) (exponent_end s (at + 1 + d)) at
    (1 + d + exponent_bytes (drop (at + 1 + d) s)) 0 (exponent_end-is s (at + 1 + d)
    ∙ omega arith) (omega arith))
    (exponent_end-is s at)
    ∙ ap (λ (c : Bool). at + cond (get_or s at 0 == 46)
    (cond c (1 + d + exponent_bytes (drop (at + 1 + d) s)) 0) (exponent_bytes t))
    (some-digits (at + 1) d)
    ∙ (λ i. at + cond (first-is i == 46) (cond (nat_lt 0 d) (1 + d + exponent_bytes (far i)) 0)
    (exponent_bytes t))
    ∙ (λ i. at + cond (get_or t 0 0 == 46)
    (cond (nat_lt 0 (digits (one-is i)))
    (1 + digits (one-is i) + exponent_bytes (drop (digits (one-is i)) (one-is i))) 0)
    (exponent_bytes t))
  where
    first-is : get_or s at 0 ≡ get_or (drop at s) 0 0
    first-is = sym (first-behind s at)

    one-is : drop (at + 1) s ≡ drop 1 (drop at s)
    one-is = sym (drop-drop 1 at s)

pub number_end-is : (s : List ℕ) (at : ℕ) → number_end s at ≡ at + number_bytes (drop at s)
number_end-is s at =
    by_zero (get_or s at 0 == 48)
    ∙ ap (λ b. at + cond (b == 48) (1 + fraction_bytes (drop 1 (drop at s)))
    (digits (drop at s) + fraction_bytes (drop (digits (drop at s)) (drop at s))))
    (sym (first-behind s at))
  where
    d : ℕ
    d = digits (drop at s)

    by_zero : (t : Bool) → fraction_end s (cond t (at + 1) (past_digits s at))
        ≡ at + cond t (1 + fraction_bytes (drop 1 (drop at s)))
        (digits (drop at s) + fraction_bytes (drop (digits (drop at s)) (drop at s)))
    by_zero true =
        fraction_end-is s (at + 1)
        ∙ ap (λ (t : List ℕ). at + 1 + fraction_bytes t) (sym (drop-drop 1 at s)) ∙ omega arith
    by_zero false =
        fraction_end-is s (at + digits (drop at s))
        ∙ ap (λ (t : List ℕ). at + digits (drop at s) + fraction_bytes t)
        (sym (drop-drop (digits (drop at s)) at s)) ∙ omega arith
