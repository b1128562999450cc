-- An element that passes is found.
use Rattle.std.proofs.Common.{◌≡◌, ℕ, zero, suc, ◌<◌, List, [], ◌∷◌, length, get_or, map, Bool, true, false, refl, arith}
use Rattle.std.specs.Prelude.{◌||◌}
use Rattle.std.specs.List.{list_any}

pub any_at : {A B : Type 0} (p : B → Bool) (f : A → B) (xs : List A) (k : ℕ) (d : A) → k < length xs → p (f (get_or xs k d)) ≡ true → list_any p (map f xs) ≡ true
any_at p f [] k d l h = absurd (omega arith)
any_at p f (x ∷ xs) zero d l h = rw h refl
any_at p f (x ∷ xs) (suc k) d l h = rw (any_at p f xs k d (omega arith) h) (or_true (p (f x)))
  where
    or_true : (b : Bool) → (b || true) ≡ true
    or_true true = refl
    or_true false = refl
