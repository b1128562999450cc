-- A store after a document was put at a place, or taken out.
use Rattle.std.proofs.Common.{◌≡◌, ℕ, List, [], Option, Some, None, option_map, Bool, true, false, cond, nat_eq, refl, sym, ap, ◌∙◌, subst, true≢false, arith}
use Rattle.std.proofs.lemmas.Grind.{common_steps}
use Rattle.std.specs.BTreeMap.{get, is_at, IsOrdered}
use Rattle.std.specs.Map.{lookup}
use Rattle.std.specs.Prelude.{◌<◌, IsSome, is_some, Result, Ok, Err, OnErr}
use Rattle.cs_value.specs.Tree.{Tree}
use Rattle.cs_view.specs.Document.{id_of}
use Rattle.cs_view.specs.Dataset.{same_id, id_cmp, standing, stands, placed}
use Rattle.cs_view.specs.Changes.{is_of_id}
use Rattle.cs_view.proofs.Datasets.{same_id-same, same_id-refl, same_id-sym, standing-placed, ascending-placed, same_docs}
use Rattle.cs_shelf.specs.Places.{Store, Order, tree_at, found, IsSound, IsEntered, AreLow, StandIn, most_places, trees_at}
use Rattle.cs_shelf.specs.View.{documents}
use Rattle.cs_shelf.specs.declared.shelf.Shelf.{Shelf}
use Rattle.cs_shelf.proofs.Standing.{none_or_some, at_of, ascending_of, at-documents, ascending-documents}

same_number : (p : ℕ) → nat_eq p p ≡ true
same_number p = grind (arith, common_steps)

one_number : (p q : ℕ) → nat_eq p q ≡ true → p ≡ q
one_number p q h = grind (arith, common_steps)

abbrev or_zero : Option ℕ → ℕ
or_zero None = 0
or_zero (Some p) = p

abbrev or_nil : Option (List ℕ) → List ℕ
or_nil None = []
or_nil (Some x) = x

-- the place, where a document is put there
abbrev pub place_if : Option Tree → ℕ → Option ℕ
place_if None p = None
place_if (Some d) p = Some p

-- `IsSound`, `IsEntered` and `AreLow` of any function that finds the places of ids
abbrev pub IsSoundBy : Store → (List ℕ → Option ℕ) → Type 0
IsSoundBy s f = (x : List ℕ) (p : ℕ) → f x ≡ Some p → option_map id_of (tree_at s p) ≡ Some x

abbrev pub IsEnteredBy : Store → (List ℕ → Option ℕ) → Type 0
IsEnteredBy s f = (p : ℕ) (t : Tree) → tree_at s p ≡ Some t → f (id_of t) ≡ Some p

abbrev pub AreLowBy : (List ℕ → Option ℕ) → Type 0
AreLowBy f = (x : List ℕ) (p : ℕ) → f x ≡ Some p → p < most_places

-- p has this in t, and is the place of this id alone; the rest is as in s
module _ (s t : Store) (m n : List ℕ → Option ℕ) (i : List ℕ) (p : ℕ) (o : Option Tree) (filled : (q : ℕ) → tree_at t q ≡ cond (nat_eq q p) o (tree_at s q))
    (ordered : (x : List ℕ) → n x ≡ cond (same_id i x) (place_if o p) (m x)) (apart : (x : List ℕ) → m x ≡ Some p → x ≡ i) where
  -- the place of another id is as it was
  kept_place : (x : List ℕ) (q : ℕ) → same_id i x ≡ false → m x ≡ Some q → tree_at t q ≡ tree_at s q
  kept_place x q f h = filled q ∙ by_number (nat_eq q p) refl where
    by_number : (b : Bool) → nat_eq q p ≡ b → cond b o (tree_at s q) ≡ tree_at s q
    by_number true e = absurd (true≢false (sym (same_id-refl i) ∙ ap (same_id i) (sym (apart x (h ∙ ap Some (one_number q p e)))) ∙ f))
    by_number false e = refl

  here : tree_at t p ≡ o
  here = filled p ∙ ap (λ b. cond b o (tree_at s p)) (same_number p)

  here_found : found t (place_if o p) ≡ o
  here_found = by_side o here where
    by_side : (r : Option Tree) → tree_at t p ≡ r → found t (place_if r p) ≡ r
    by_side None h = refl
    by_side (Some d) h = h

  pub found_at : (x : List ℕ) → found t (n x) ≡ cond (same_id i x) o (found s (m x))
  found_at x = ap (found t) (ordered x) ∙ by_test (same_id i x) refl where
    old : same_id i x ≡ false → (r : Option ℕ) → m x ≡ r → found t r ≡ found s r
    old f None h = refl
    old f (Some q) h = kept_place x q f h

    by_test : (b : Bool) → same_id i x ≡ b → found t (cond b (place_if o p) (m x)) ≡ cond b o (found s (m x))
    by_test true e = here_found
    by_test false e = old e (m x) refl

  here_sound : is_of_id i o ≡ true → (x : List ℕ) (q : ℕ) → i ≡ x → place_if o p ≡ Some q → option_map id_of (tree_at t q) ≡ Some x
  here_sound own x q e g = by_side o own here g where
    by_side : (r : Option Tree) → is_of_id i r ≡ true → tree_at t p ≡ r → place_if r p ≡ Some q → option_map id_of (tree_at t q) ≡ Some x
    by_side None w h k = absurd (none_or_some q k)
    by_side (Some d) w h k =
        subst (λ (z : ℕ). option_map id_of (tree_at t z) ≡ Some x) (ap or_zero k) (ap (option_map id_of) h ∙ ap Some (sym (same_id-same i (id_of d) w) ∙ e))

  pub sound_at : is_of_id i o ≡ true → IsSoundBy s m → IsSoundBy t n
  sound_at own sound x q h = by_test (same_id i x) refl (sym (ordered x) ∙ h) where
    by_test : (b : Bool) → same_id i x ≡ b → cond b (place_if o p) (m x) ≡ Some q → option_map id_of (tree_at t q) ≡ Some x
    by_test true e g = here_sound own x q (same_id-same i x e) g
    by_test false e g = ap (option_map id_of) (kept_place x q e g) ∙ sound x q g

  -- what stands at a place has it under its id
  pub entered_at : is_of_id i o ≡ true → ((q : ℕ) → m i ≡ Some q → q ≡ p) → IsEnteredBy s m → IsEnteredBy t n
  entered_at own only entered q d h = by_number (nat_eq q p) refl (sym (filled q) ∙ h) where
    there : o ≡ Some d → n (id_of d) ≡ Some p
    there e =
        ordered (id_of d) ∙ ap (λ b. cond b (place_if o p) (m (id_of d))) (sym (ap (is_of_id i) e) ∙ own)
        ∙ ap (λ r. place_if r p) e

    elsewhere : nat_eq q p ≡ false → m (id_of d) ≡ Some q → n (id_of d) ≡ Some q
    elsewhere f g = ordered (id_of d) ∙ by_test (same_id i (id_of d)) refl where
      by_test : (b : Bool) → same_id i (id_of d) ≡ b → cond b (place_if o p) (m (id_of d)) ≡ Some q
      by_test true e =
          absurd (true≢false (sym (same_number p) ∙ ap (λ z. nat_eq z p) (sym (only q (ap m (same_id-same i (id_of d) e) ∙ g))) ∙ f))
      by_test false e = g

    by_number : (b : Bool) → nat_eq q p ≡ b → cond b o (tree_at s q) ≡ Some d → n (id_of d) ≡ Some q
    by_number true e g = there g ∙ ap Some (sym (one_number q p e))
    by_number false e g = elsewhere e (entered q d g)

-- the same where m and n are maps
module _ (s t : Store) (m n : Order) (i : List ℕ) (p : ℕ) (o : Option Tree) (filled : (q : ℕ) → tree_at t q ≡ cond (nat_eq q p) o (tree_at s q))
    (ordered : (x : List ℕ) → get id_cmp n x ≡ cond (same_id i x) (place_if o p) (get id_cmp m x)) (apart : (x : List ℕ) → get id_cmp m x ≡ Some p → x ≡ i) where
  pub sound_written : is_of_id i o ≡ true → IsSound s m → IsSound t n
  sound_written own sound = sound_at s t (get id_cmp m) (get id_cmp n) i p o filled ordered apart own sound

  pub entered_written : is_of_id i o ≡ true → ((q : ℕ) → get id_cmp m i ≡ Some q → q ≡ p) → IsEntered s m → IsEntered t n
  entered_written own only entered = entered_at s t (get id_cmp m) (get id_cmp n) i p o filled ordered apart own only entered

  pub as_placed : is_of_id i o ≡ true → IsSound s m → IsOrdered id_cmp m → IsOrdered id_cmp n → trees_at t n.entries ≡ placed i o (trees_at s m.entries)
  as_placed own sound before after =
      let later : IsSound t n = sound_written own sound in
      same_docs (trees_at t n.entries) (placed i o (trees_at s m.entries)) (ascending_of t n later after) (ascending-placed i o (trees_at s m.entries) (ascending_of s m sound before))
      (λ x. at_of t n later after x ∙ found_at s t (get id_cmp m) (get id_cmp n) i p o filled ordered apart x ∙ ap (λ b. cond b o (found s (get id_cmp m x))) (same_id-sym i x) ∙ ap (cond (same_id x i) o) (sym (at_of s m sound before x))
      ∙ sym (standing-placed x i o (trees_at s m.entries) own))

pub own_id : (d : Tree) → is_of_id (id_of d) (Some d) ≡ true
own_id d = same_id-refl (id_of d)

-- no id has the place that is next
pub no_id_at : (s : Store) (f : List ℕ → Option ℕ) (p : ℕ) (i : List ℕ) → tree_at s p ≡ None → IsSoundBy s f → (x : List ℕ) → f x ≡ Some p → x ≡ i
no_id_at s f p i vacant sound x h = absurd (none_or_some x (sym (ap (option_map id_of) vacant) ∙ sound x p h))

-- the same of a map
pub vacant_apart : (s : Store) (m : Order) (p : ℕ) (i : List ℕ) → tree_at s p ≡ None → IsSound s m → (x : List ℕ) → get id_cmp m x ≡ Some p → x ≡ i
vacant_apart s m p i vacant sound = no_id_at s (get id_cmp m) p i vacant sound

-- the place of an id is that of no other
pub own_apart : (s : Store) (m : Order) (p : ℕ) (i : List ℕ) → get id_cmp m i ≡ Some p → IsSound s m → (x : List ℕ) → get id_cmp m x ≡ Some p → x ≡ i
own_apart s m p i got sound x h = ap or_nil (sym (sound x p h) ∙ sound i p got)

-- the place of an id stays its place
pub same_order : (m : Order) (i : List ℕ) (p : ℕ) → get id_cmp m i ≡ Some p → (x : List ℕ) → get id_cmp m x ≡ cond (same_id i x) (Some p) (get id_cmp m x)
same_order m i p got x = by_test (same_id i x) refl where
  by_test : (b : Bool) → same_id i x ≡ b → get id_cmp m x ≡ cond b (Some p) (get id_cmp m x)
  by_test true e = ap (get id_cmp m) (sym (same_id-same i x e)) ∙ got
  by_test false e = refl

pub is_there : (o : Option Tree) (x : List ℕ) → option_map id_of o ≡ Some x → IsSome o
is_there None x h = absurd (none_or_some x h)
is_there (Some t) x h = refl

pub no_document : (s : Store) (f : List ℕ → Option ℕ) (x : List ℕ) → IsSoundBy s f → found s (f x) ≡ None → f x ≡ None
no_document s f x sound h = by_place (f x) refl h where
  by_place : (o : Option ℕ) → f x ≡ o → found s o ≡ None → o ≡ None
  by_place None e g = refl
  by_place (Some p) e g = absurd (none_or_some x (sym (ap (option_map id_of) g) ∙ sound x p e))

none_there : (o : Option Tree) → is_some o ≡ false → o ≡ None
none_there None h = refl
none_there (Some d) h = cc

-- where no document of an id stands, the id has no place
pub no_place_of : (d : Shelf) (x : List ℕ) → stands x (documents d) ≡ false → get id_cmp d.order x ≡ None
no_place_of d x h = no_document d.store (get id_cmp d.order) x d.sound (sym (at-documents d x) ∙ none_there (standing x (documents d)) h)

-- an id without a place has no document
pub no_place_none : (d : Shelf) (x : List ℕ) → get id_cmp d.order x ≡ None → stands x (documents d) ≡ false
no_place_none d x h = ap is_some (at-documents d x ∙ ap (found d.store) h)

-- an id without a place has no document to take out
pub taken_nowhere : (d : Shelf) (x : List ℕ) → get id_cmp d.order x ≡ None → documents d ≡ placed x None (documents d)
taken_nowhere d x h =
    same_docs (documents d) (placed x None (documents d)) (ascending-documents d) (ascending-placed x None (documents d) (ascending-documents d))
    (λ q. by_test q (same_id q x) refl ∙ sym (standing-placed q x None (documents d) refl)) where
      by_test : (q : List ℕ) (b : Bool) → same_id q x ≡ b → standing q (documents d) ≡ cond b None (standing q (documents d))
      by_test q true e = ap (λ k. standing k (documents d)) (same_id-same q x e) ∙ at-documents d x ∙ ap (found d.store) h
      by_test q false e = refl

pub on_err : {A E : Type 0} (r : Result A E) {P : Type 0} → P → OnErr r P
on_err (Ok a) h = tt
on_err (Err e) h = h

-- the places are still low
pub low_at : (m n : List ℕ → Option ℕ) (i : List ℕ) (p : ℕ) (o : Option Tree) → ((x : List ℕ) → n x ≡ cond (same_id i x) (place_if o p) (m x)) → p < most_places → AreLowBy m → AreLowBy n
low_at m n i p o ordered lt low x q h = by_test (same_id i x) (sym (ordered x) ∙ h) where
  by_side : (r : Option Tree) → place_if r p ≡ Some q → q < most_places
  by_side None g = absurd (none_or_some q g)
  by_side (Some d) g = subst (λ (z : ℕ). z < most_places) (ap or_zero g) lt

  by_test : (b : Bool) → cond b (place_if o p) (m x) ≡ Some q → q < most_places
  by_test true g = by_side o g
  by_test false g = low x q g

-- the same of maps
pub low_written : (m n : Order) (i : List ℕ) (p : ℕ) (o : Option Tree) → ((x : List ℕ) → get id_cmp n x ≡ cond (same_id i x) (place_if o p) (get id_cmp m x)) → p < most_places → AreLow m → AreLow n
low_written m n i p o ordered lt low = low_at (get id_cmp m) (get id_cmp n) i p o ordered lt low

pub low_same : (m n : Order) → n.entries ≡ m.entries → AreLow m → AreLow n
low_same m n is low x p h = low x p (ap (λ es. lookup (is_at (id_cmp x)) es) (sym is) ∙ h)

-- a new id takes no other's place
pub stay_written : (m n : Order) (i : List ℕ) (p : ℕ) → get id_cmp m i ≡ None → ((x : List ℕ) → get id_cmp n x ≡ cond (same_id i x) (Some p) (get id_cmp m x)) → StandIn m n
stay_written m n i p fresh ordered x q h = ordered x ∙ by_test (same_id i x) refl where
  by_test : (b : Bool) → same_id i x ≡ b → cond b (Some p) (get id_cmp m x) ≡ Some q
  by_test true e = absurd (none_or_some q (sym fresh ∙ ap (get id_cmp m) (same_id-same i x e) ∙ h))
  by_test false e = h

pub entered_same : (s t : Store) (m n : Order) → ((p : ℕ) → tree_at t p ≡ tree_at s p) → n.entries ≡ m.entries → IsEntered s m → IsEntered t n
entered_same s t m n is same entered p d h =
    ap (λ es. lookup (is_at (id_cmp (id_of d))) es) same ∙ entered p d (sym (is p) ∙ h)

-- an id has one place at most, and a new one none
pub one_place : (m : Order) (i : List ℕ) (p : ℕ) → get id_cmp m i ≡ Some p → (q : ℕ) → get id_cmp m i ≡ Some q → q ≡ p
one_place m i p got q h = ap or_zero (sym h ∙ got)

pub no_place_yet : (m : Order) (i : List ℕ) (p : ℕ) → get id_cmp m i ≡ None → (q : ℕ) → get id_cmp m i ≡ Some q → q ≡ p
no_place_yet m i p fresh q h = absurd (none_or_some q (sym fresh ∙ h))
