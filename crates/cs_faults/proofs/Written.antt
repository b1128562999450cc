-- A number has a fault, or it is written within 64 bits.
use Rattle.std.proofs.Common.{◌≡◌, ℕ, ◌≤◌, List, [], ◌∷◌, Bool, true, false, Some, None, IfSome, refl, arith}
use Rattle.std.specs.Prelude.{◌||◌, if◌then◌else◌, nat_lt}
use Rattle.cs_syntax.specs.Faults.{Fault}

-- by the three tests of a number, the faults that they tell, and the number that is written
module _ (x y z : Fault) (k : ℕ) where
  pub is_taken : (a b c : Bool)
      → (if a then x ∷ [] else if b then y ∷ [] else if c then z ∷ [] else []) ≡ []
      → (if a || b || c then None else Some k) ≡ Some k
  is_taken true b c h = cc
  is_taken false true c h = cc
  is_taken false false true h = cc
  is_taken false false false h = refl

  pub is_refused : (a b c : Bool) (f : Fault) (fs : List Fault)
      → (if a then x ∷ [] else if b then y ∷ [] else if c then z ∷ [] else []) ≡ f ∷ fs
      → (if a || b || c then None else Some k) ≡ None
  is_refused true b c f fs h = refl
  is_refused false true c f fs h = refl
  is_refused false false true f fs h = refl
  is_refused false false false f fs h = cc

pub is_within : (most k : ℕ) (a b c : Bool) → nat_lt most k ≡ c
    → IfSome (if a || b || c then None else Some k) (λ n. n ≤ most)
is_within most k true b c h = tt
is_within most k false true c h = tt
is_within most k false false true h = tt
is_within most k false false false h = let within : k ≤ most = grind arith in within
