-- Places in a list.
use Rattle.std.proofs.Common.{◌≡◌, ℕ, zero, suc, ◌+◌, ◌-◌, ◌≤◌, min, List, [], ◌∷◌, map, length, drop, take, refl, sym, ap, subst, ◌∙◌, Bool, true, false, cond, ltb, ℤ, pos, negsuc, arith, Some, None, slice_get, slice_range}
use Rattle.std.proofs.lemmas.Bool.{ltb-false}
use Rattle.std.proofs.lemmas.List.{drop-take, drop_min, length-take-le, drop-map}
use Rattle.std.specs.List.{take-map}
use Rattle.std.specs.Prelude.{unwrap_or}
use Rattle.cs_value.specs.Tree.{Tree, null}
use Rattle.cs_meaning.specs.Positions.{clamped, place_in, element_at}
use Rattle.cs_parts.specs.Positions.{element_in}

-- the elements from one place up to another
pub between_places : {A : Type 0} (ts : List A) (i j : ℕ) → j ≤ length ts → drop (min i j) (take j ts) ≡ drop i (take j ts)
between_places ts i j le = subst (λ (m : ℕ). drop (min i m) (take j ts) ≡ drop i (take j ts)) (length-take-le j ts le) (drop_min i (take j ts))

-- the element at the place
pub beyond : (ts : List Tree) (i : ℕ) → length ts ≤ i → unwrap_or (slice_get ts i) null ≡ null
beyond [] i le = refl
beyond (t ∷ ts) zero le = absurd (omega arith)
beyond (t ∷ ts) (suc i) le = beyond ts i (omega arith)

front : (ts : List Tree) (i : ℕ) (b : Bool) → ltb i (length ts) ≡ b
    → unwrap_or (slice_get ts i) null ≡ element_in ts (cond b (Some i) None)
front ts i true h = refl
front ts i false h = beyond ts i (omega (arith, ltb-false i (length ts) h))

pub element_found : (ts : List Tree) (z : ℤ)
    → element_at ts z ≡ element_in ts (place_in (length ts) z)
element_found ts (pos i) = front ts i (ltb i (length ts)) refl
element_found ts (negsuc i) = refl

pub range_of : {A : Type 0} (f : A → Tree) (xs : List A) (a b : ℕ) → a ≤ b → map f (slice_range xs a b) ≡ drop a (take b (map f xs))
range_of f xs a b le =
    let e : a + (b - a) ≡ b = omega arith in
    ap (map f) (sym (drop-take a (b - a) xs) ∙ ap (λ (n : ℕ). drop a (take n xs)) e) ∙ (sym (drop-map f a (take b xs)) ∙ ap (drop a) (sym (take-map f b xs)))

pub clamped_inside : (n : ℕ) (z : ℤ) → clamped n z ≤ n
clamped_inside n (pos i) = omega arith
clamped_inside n (negsuc i) = omega arith
