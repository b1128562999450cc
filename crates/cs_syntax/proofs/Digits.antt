-- A number that is read digit by digit never falls.
use Rattle.std.proofs.Common.{ℕ, suc, ◌+◌, ◌-◌, ◌*◌, ◌<◌, ◌≤◌, List, [], ◌∷◌, length, get_or, drop, arith, drop-cons}
use Rattle.std.specs.Prelude.{fold}

-- the number with one more digit behind it
abbrev pub next : ℕ → ℕ → ℕ
next n digit = n * 10 + (digit - 48)

grows : (n : ℕ) (digits : List ℕ) → n ≤ fold next n digits
grows n [] = omega arith
grows n (d ∷ ds) = omega (arith, grows (next n d) ds)

pub passes : (most n i : ℕ) (digits : List ℕ) → i < length digits →
    most < next n (get_or digits i 0) → most < fold next n (drop i digits)
passes most n i digits inside above =
    rw (drop-cons digits i 0)
    (omega (arith, grows (next n (get_or digits i 0)) (drop (suc i) digits)))
