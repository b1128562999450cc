-- Facts of booleans, and of tests of the elements of a list.
use Rattle.std.proofs.Common.{◌≡◌, ℕ, zero, suc, ◌<◌, length, slice_index_or, List, [], ◌∷◌, Bool, true, false, ◌&&◌, ◌||◌, T, refl, sym, ap, subst, ◌∙◌, arith}
use Rattle.std.specs.List.{list_any, Contains}

pub and-left : (a b : Bool) → (a && b) ≡ true → a ≡ true
and-left true b h = refl
and-left false b h = h

pub and-right : (a b : Bool) → (a && b) ≡ true → b ≡ true
and-right true b h = h
and-right false b h = cc

pub or-left : (a b : Bool) → (a || b) ≡ false → a ≡ false
or-left true b h = cc
or-left false b h = refl

pub or-right : (a b : Bool) → (a || b) ≡ false → b ≡ false
or-right true b h = cc
or-right false b h = h

pub to_T : (b : Bool) → b ≡ true → T b
to_T b h = subst T (sym h) tt

pub from_T : (b : Bool) → T b → b ≡ true
from_T true h = refl
from_T false h = absurd h

-- a test that no element passes fails at each
pub none_passes : {X : Type 0} (p : X → Bool) (xs : List X) (x : X) → list_any p xs ≡ false → (i : ℕ) → i < length xs → slice_index_or xs i x ≡ x → p x ≡ false
none_passes p [] x h i low is = absurd (omega arith)
none_passes p (y ∷ ys) x h zero low is = ap p (sym is) ∙ or-left (p y) (list_any p ys) h
none_passes p (y ∷ ys) x h (suc i) low is = none_passes p ys x (or-right (p y) (list_any p ys) h) i (omega arith) is

pub passes_nowhere : {X : Type 0} (p : X → Bool) (xs : List X) (x : X) → list_any p xs ≡ false → Contains xs x → p x ≡ false
passes_nowhere p xs x h c = none_passes p xs x h c.0 c.1 c.2
