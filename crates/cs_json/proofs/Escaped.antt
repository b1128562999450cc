-- Bytes that stand for themselves in a JSON text.
use Rattle.std.proofs.Common.{◌≡◌, ◌≢◌, ◌≤◌, ◌∷◌, [], ℕ, false, refl, nat_lt, ne_eqb, arith}
use Rattle.std.proofs.lemmas.Grind.{common_steps}
use Rattle.json.specs.Print.{escape_byte}

not-below : (x : ℕ) → 32 ≤ x → nat_lt x 32 ≡ false
not-below x low = grind (arith, common_steps, low)

pub plain-byte : (x : ℕ) → 32 ≤ x → x ≢ 34 → x ≢ 92 → escape_byte x ≡ x ∷ []
unfolding escape_byte
plain-byte x low quote slash =
    rw (
      ne_eqb x 34 quote,
      ne_eqb x 92 slash,
      ne_eqb x 8 (λ e. omega (arith, low, e)),
      ne_eqb x 12 (λ e. omega (arith, low, e)),
      ne_eqb x 10 (λ e. omega (arith, low, e)),
      ne_eqb x 13 (λ e. omega (arith, low, e)),
      ne_eqb x 9 (λ e. omega (arith, low, e)),
      not-below x low,
    ) refl
