-- The keys at a place, and those behind it.
use Rattle.std.proofs.Common.{◌≡◌, ℕ, zero, suc, ◌+◌, ◌<◌, List, [], ◌∷◌, map, length, get_or, drop, refl, sym, ap, ◌∙◌, Bool, Ordering, Option, Some, None, option_map, arith}
use Rattle.std.specs.Prelude.{slice_get, unwrap_or}
use Rattle.std.proofs.lemmas.Option.{slice_get-map, unwrap_or-slice_get}
use Rattle.std.specs.Ordering.{ordering_then}
use Rattle.cs_value.specs.Tree.{Tree, null}
use Rattle.cs_parts.specs.Parts.{item}
use Rattle.cs_parts.specs.declared.item.Item.{Item}
use Rattle.cs_meaning.specs.Ordered.{compared, by_keys}

first_at : (p : ℕ) (xs : List Tree) → get_or (drop p xs) 0 null ≡ get_or xs p null
first_at zero xs = refl
first_at (suc p) [] = refl
first_at (suc p) (x ∷ xs) = first_at p xs

behind_at : (p : ℕ) (xs : List Tree) → drop 1 (drop p xs) ≡ drop (suc p) xs
behind_at zero xs = refl
behind_at (suc p) [] = refl
behind_at (suc p) (x ∷ xs) = behind_at p xs

-- the comparison at a place, and then those behind it
pub one_key : (left later : List Bool) (d : Bool) (p : ℕ) (xs ys : List Tree) → left ≡ d ∷ later
    → by_keys left (drop p xs) (drop p ys) ≡ ordering_then (compared d (get_or xs p null) (get_or ys p null)) (by_keys later (drop (suc p) xs) (drop (suc p) ys))
one_key left later d p xs ys is =
    ap (λ (es : List Bool). by_keys es (drop p xs) (drop p ys)) is
    ∙ (ap (λ (x : Tree). ordering_then (compared d x (get_or (drop p ys) 0 null)) (by_keys later (drop 1 (drop p xs)) (drop 1 (drop p ys)))) (first_at p xs)
    ∙ (ap (λ (x : Tree). ordering_then (compared d (get_or xs p null) x) (by_keys later (drop 1 (drop p xs)) (drop 1 (drop p ys)))) (first_at p ys)
    ∙ (ap (λ (zs : List Tree). ordering_then (compared d (get_or xs p null) (get_or ys p null)) (by_keys later zs (drop 1 (drop p ys)))) (behind_at p xs)
    ∙ ap (λ (zs : List Tree). ordering_then (compared d (get_or xs p null) (get_or ys p null)) (by_keys later (drop (suc p) xs) zs)) (behind_at p ys))))

pub decided : (left later : List Bool) (d : Bool) (p : ℕ) (xs ys : List Tree) (o all : Ordering) (x y : Tree) → left ≡ d ∷ later → by_keys left (drop p xs) (drop p ys) ≡ all
    → o ≡ compared d x y → x ≡ get_or xs p null → y ≡ get_or ys p null → ordering_then o (by_keys later (drop (p + 1) xs) (drop (p + 1) ys)) ≡ all
decided left later d p xs ys o all x y is so_far is-o is-x is-y =
    let e : p + 1 ≡ suc p = omega arith in
    ap (λ (n : ℕ). ordering_then o (by_keys later (drop n xs) (drop n ys))) e
    ∙ (ap (λ (r : Ordering). ordering_then r (by_keys later (drop (suc p) xs) (drop (suc p) ys))) (is-o ∙ (ap (λ (t : Tree). compared d t y) is-x ∙ ap (compared d (get_or xs p null)) is-y))
    ∙ (sym (one_key left later d p xs ys is) ∙ so_far))

-- a key that is not there is null
pub or_null : (o : Option Tree) (xs : List Tree) (p : ℕ) → o ≡ slice_get xs p
    → unwrap_or o null ≡ get_or xs p null
or_null o xs p h = ap (λ (x : Option Tree). unwrap_or x null) h ∙ unwrap_or-slice_get xs p null

pub item_at : (vs : List Item) (i : ℕ) (v : Item) → slice_get vs i ≡ Some v
    → Some (item v) ≡ slice_get (map item vs) i
item_at vs i v h = sym (slice_get-map item vs i ∙ ap (option_map item) h)

pub no_item_at : (vs : List Item) (i : ℕ) → slice_get vs i ≡ None
    → None ≡ slice_get (map item vs) i
no_item_at vs i h = sym (slice_get-map item vs i ∙ ap (option_map item) h)
