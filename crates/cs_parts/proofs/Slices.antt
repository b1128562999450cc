-- Elements and slices of lists whose elements stand for trees.
use Rattle.std.proofs.Common.{◌≡◌, ℕ, zero, suc, ◌<◌, ◌≤◌, min, List, [], ◌∷◌, map, length, get_or, drop, take, refl, sym, ap, ◌∙◌, Bool, ℤ, arith, Some, slice_range, Vec, Global}
use Rattle.std.proofs.lemmas.List.{drop-map, length-map}
use Rattle.std.specs.List.{take-map}
use Rattle.std.specs.Prelude.{slice_get, unwrap_or}
use Rattle.cs_value.specs.Words.{list_of}
use Rattle.cs_value.specs.Tree.{Tree, null}
use Rattle.cs_value.specs.View.{tree}
use Rattle.cs_value.specs.declared.val.Val.{Val}
use Rattle.cs_value.specs.declared.val.Val as val
use Rattle.cs_value.specs.declared.val.Fields.{Fields}
use Rattle.cs_value.proofs.Views.{tree-List, tree-Obj, members-trees}
use Rattle.cs_meaning.specs.Positions.{clamped, counted, behind, elements_between, place_in, element, element_at, sliced}
use Rattle.cs_parts.specs.Positions.{element_in}
use Rattle.cs_parts.proofs.ListPlaces.{element_found, beyond, between_places, range_of, clamped_inside}

-- elements
element_of : (z : ℤ) (ts : List Tree)
    → element (Some z) (list_of ts) ≡ element_in ts (place_in (length ts) (counted (length ts) z))
element_of z ts =
    ap (λ (us : List Tree). element_at us (counted (length us) z)) (members-trees ts)
    ∙ element_found ts (counted (length ts) z)

pub element_of_parts : {A : Type 0} (z : ℤ) (f : A → Tree) (xs : List A)
    → element (Some z) (list_of (map f xs))
    ≡ element_in (map f xs) (place_in (length xs) (counted (length xs) z))
element_of_parts z f xs =
    element_of z (map f xs)
    ∙ ap (λ (n : ℕ). element_in (map f xs) (place_in n (counted n z))) (length-map xs f)

pub element_of_list : (z : ℤ) (v : Vec Val Global) → element (Some z) (tree (val.List v))
    ≡ element_in (map tree v.items) (place_in (length v.items) (counted (length v.items) z))
element_of_list z v = ap (element (Some z)) (tree-List v) ∙ element_of_parts z tree v.items

pub element_of_object : (z : ℤ) (f : Fields) → element (Some z) (tree (val.Obj f)) ≡ null
element_of_object z f = ap (element (Some z)) (tree-Obj f)

pub found_map : {A : Type 0} (f : A → Tree) (xs : List A) (i : ℕ) (d : A) → i < length xs
    → unwrap_or (slice_get (map f xs) i) null ≡ f (get_or xs i d)
found_map f [] i d h = absurd (omega arith)
found_map f (x ∷ xs) zero d h = refl
found_map f (x ∷ xs) (suc i) d h = found_map f xs i d (omega arith)

pub none_map : {A : Type 0} (f : A → Tree) (xs : List A) (i : ℕ) → length xs ≤ i
    → unwrap_or (slice_get (map f xs) i) null ≡ null
none_map f xs i h = beyond (map f xs) i (omega (arith, h, length-map xs f))

-- slices
pub sliced_of_parts : (i j : ℤ) (closed : Bool) (ts : List Tree) → sliced (Some (Some i)) (Some (Some j)) closed (list_of ts) ≡ list_of (elements_between i j closed ts)
sliced_of_parts i j closed ts = ap (λ (us : List Tree). list_of (elements_between i j closed us)) (members-trees ts)

pub sliced_of_list : (i j : ℤ) (closed : Bool) (v : Vec Val Global) → sliced (Some (Some i)) (Some (Some j)) closed (tree (val.List v)) ≡ list_of (elements_between i j closed (map tree v.items))
sliced_of_list i j closed v = ap (sliced (Some (Some i)) (Some (Some j)) closed) (tree-List v) ∙ sliced_of_parts i j closed (map tree v.items)

pub sliced_of_object : (i j : ℤ) (closed : Bool) (f : Fields) → sliced (Some (Some i)) (Some (Some j)) closed (tree (val.Obj f)) ≡ null
sliced_of_object i j closed f = ap (sliced (Some (Some i)) (Some (Some j)) closed) (tree-Obj f)

pub between_map : {A : Type 0} (f : A → Tree) (i j : ℤ) (closed : Bool) (xs : List A) → map f (elements_between i j closed xs) ≡ elements_between i j closed (map f xs)
between_map f i j closed xs =
    let n = length xs in
    sym (drop-map f (clamped n (counted n i)) (take (clamped n (behind closed (counted n j))) xs))
    ∙ (ap (drop (clamped n (counted n i))) (sym (take-map f (clamped n (behind closed (counted n j))) xs))
    ∙ ap (λ (m : ℕ). drop (clamped m (counted m i)) (take (clamped m (behind closed (counted m j))) (map f xs))) (sym (length-map xs f)))

pub items_between : {A : Type 0} (xs : List A) (n s e : ℕ) (i j : ℤ) (closed : Bool) → n ≡ length xs → s ≡ clamped n (counted n i) → e ≡ clamped n (behind closed (counted n j))
    → drop (min s e) (take e xs) ≡ elements_between i j closed xs
items_between xs n s e i j closed is-n is-s is-e =
    let inside : e ≤ length xs = omega (arith, is-n, is-e, clamped_inside n (behind closed (counted n j))) in
    between_places xs s e inside
    ∙ (ap (λ (a : ℕ). drop a (take e xs)) is-s ∙ (ap (λ (b : ℕ). drop (clamped n (counted n i)) (take b xs)) is-e
    ∙ ap (λ (m : ℕ). drop (clamped m (counted m i)) (take (clamped m (behind closed (counted m j))) xs)) is-n))

pub lent_between : {A : Type 0} (f : A → Tree) (xs : List A) (n s e : ℕ) (i j : ℤ) (closed : Bool) → n ≡ length xs → s ≡ clamped n (counted n i) → e ≡ clamped n (behind closed (counted n j))
    → map f (slice_range xs (min s e) e) ≡ elements_between i j closed (map f xs)
lent_between f xs n s e i j closed is-n is-s is-e =
    range_of f xs (min s e) e (omega arith) ∙ items_between (map f xs) n s e i j closed (is-n ∙ sym (length-map xs f)) is-s is-e
