-- Numbers by their digits to the base 31, to 64 bits.
use Rattle.std.proofs.Common.{◌≡◌, ◌∙◌, ℕ, List, ◌∷◌, ◌+◌, ◌*◌, ◌%◌, ◌^◌, ◌/◌, length, sym, ap, arith}
use Rattle.std.proofs.Math.Nat.{add-mul, add-mul-mod_self_right, mod-add-div', mul_assoc, mul_comm, pow-succ'}
use Rattle.cs_hits.specs.Looked.{number}

abbrev low : ℕ → ℕ
low x = x % 2 ^ 64

swap : (a b r : ℕ) → (a + b) + r ≡ (a + r) + b
swap a b r = omega arith

-- of a factor the low bits count alone
times_low : (x p r : ℕ) → low (low x * p + r) ≡ low (x * p + r)
times_low x p r =
    let q = x / 2 ^ 64 in
    sym (ap low
    (ap (λ (y : ℕ). y * p + r) (sym (mod-add-div' x (2 ^ 64)))
    ∙ ap (λ (y : ℕ). y + r) (add-mul (low x) (q * 2 ^ 64) p)
    ∙ ap (λ (y : ℕ). (low x * p + y) + r) (mul_assoc q (2 ^ 64) p ∙ ap (λ (y : ℕ). q * y) (mul_comm (2 ^ 64) p) ∙ sym (mul_assoc q p (2 ^ 64)))
    ∙ swap (low x * p) (q * p * 2 ^ 64) r)
    ∙ add-mul-mod_self_right (low x * p + r) (q * p) (2 ^ 64))

-- one digit more
pub step : (m b : ℕ) (bs : List ℕ) → low (low (low (m * 31) + b) * 31 ^ length bs + number bs) ≡ low (m * 31 ^ length (b ∷ bs) + number (b ∷ bs))
step m b bs =
    let p = 31 ^ length bs in
    times_low (low (m * 31) + b) p (number bs)
    ∙ ap (λ (y : ℕ). low (y + number bs)) (add-mul (low (m * 31)) b p)
    ∙ ap low (together (low (m * 31) * p) (b * p) (number bs))
    ∙ times_low (m * 31) p (b * p + number bs)
    ∙ ap (λ (y : ℕ). low (y + (b * p + number bs))) (mul_assoc m 31 p ∙ ap (λ (y : ℕ). m * y) (sym (pow-succ' 31 (length bs)))) where
      together : (a c r : ℕ) → (a + c) + r ≡ a + (c + r)
      together a c r = omega arith
