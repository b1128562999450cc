-- A table whose rows are read by two of their parts, the name and one more.
use Rattle.std.proofs.Common.{◌≡◌, ℕ, List, [], ◌∷◌, map, Bool, true, false, cond, Option, Some, option_map, refl, sym, ap, ◌∙◌, nat_cmp}
use Rattle.std.specs.Ordering.{is_eq}
use Rattle.std.specs.Cmp.Lexicographic.{slice_cmp}
use Rattle.cs_table.specs.Row.{row_of}

option_map-cond : {A B : Type 0} (f : A → B) (b : Bool) (x y : Option A) →
    option_map f (cond b x y) ≡ cond b (option_map f x) (option_map f y)
option_map-cond f true x y = refl
option_map-cond f false x y = refl

parts_of : {A B : Type 0} (called : A → List ℕ) (part : A → B) (name : List ℕ) (rows : List A) →
    option_map part (row_of called name rows)
    ≡ option_map (λ (r : List ℕ × B). r.1)
    (row_of (λ (r : List ℕ × B). r.0) name (map (λ (r : A). (called r, part r)) rows))
parts_of called part name [] = refl
parts_of {A = A} {B = B} called part name (r ∷ rows) =
    option_map-cond part (is_eq (slice_cmp nat_cmp (called r) name)) (Some r)
    (row_of called name rows)
    ∙ ap (cond (is_eq (slice_cmp nat_cmp (called r) name)) (Some (part r)))
    (parts_of called part name rows)
    ∙ sym (option_map-cond (λ (x : List ℕ × B). x.1) (is_eq (slice_cmp nat_cmp (called r) name))
    (Some (called r, part r))
    (row_of (λ (x : List ℕ × B). x.0) name (map (λ (x : A). (called x, part x)) rows)))

-- the row of a name, in a table that is read by two of its rows' parts
pub row-parts : {A B : Type 0} (called : A → List ℕ) (part : A →
    B) (name : List ℕ) (rows : List A) (parts : List (List ℕ × B)) →
    map (λ (r : A). (called r, part r)) rows ≡ parts
    → (found : Option A) → found ≡ row_of called name rows →
    option_map part found
    ≡ option_map (λ (r : List ℕ × B). r.1) (row_of (λ (r : List ℕ × B). r.0) name parts)
row-parts {B = B} called part name rows parts is found e =
    ap (option_map part) e ∙ parts_of called part name rows
    ∙ ap (λ (xs : List (List ℕ × B)). option_map (λ (r : List ℕ × B). r.1)
    (row_of (λ (r : List ℕ × B). r.0) name xs)) is
