-- The first elements of a list where it is cut or goes on behind them, and its last one.
use Rattle.std.proofs.Common.{◌≡◌, ℕ, zero, suc, ◌≤◌, List, [], ◌∷◌, ◌++◌, length, take, reverse, refl, ap, arith}
use mathlib.Core.List.{reverse-append}

module _ {X : Type 0} where
  pub take_cut : (i j : ℕ) (xs : List X) → i ≤ j → take i (take j xs) ≡ take i xs
  take_cut zero j xs h = refl
  take_cut (suc i) zero xs h = absurd (omega arith)
  take_cut (suc i) (suc j) [] h = refl
  take_cut (suc i) (suc j) (x ∷ xs) h = ap (λ l. x ∷ l) (take_cut i j xs (omega arith))

  pub take_before : (i : ℕ) (xs ys : List X) → i ≤ length xs → take i (xs ++ ys) ≡ take i xs
  take_before zero xs ys h = refl
  take_before (suc i) [] ys h = absurd (omega arith)
  take_before (suc i) (x ∷ xs) ys h = ap (λ l. x ∷ l) (take_before i xs ys (omega arith))

  pub reverse-last : (xs : List X) (y : X) → reverse (xs ++ y ∷ []) ≡ y ∷ reverse xs
  reverse-last xs y = reverse-append xs (y ∷ [])
