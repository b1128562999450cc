-- The places are low, and no two ids have one, so there are few.
use Rattle.std.proofs.Common.{◌≡◌, ℕ, suc, ◌<◌, ◌≤◌, List, [], ◌∷◌, map, length, Option, Some, None, option_map, Less, Bool, true, false, ◌||◌, nat_eq, refl, sym, ap, ◌∙◌, subst, true≢false, arith}
use Rattle.std.proofs.lemmas.Grind.{common_steps}
use Rattle.std.proofs.lemmas.Map.Steps.{length-le_from_distinct_below}
use Rattle.std.specs.BTreeMap.{get}
use Rattle.std.specs.List.{AllByRecursion, IsDistinct, list_any}
use Rattle.std.specs.List.Sorted.{IsStrictlySortedBy}
use Rattle.std.specs.Map.{keys_of}
use Rattle.std.specs.Ordering.{is_eq}
use Rattle.std.specs.Prelude.{IfSome}
use Rattle.cs_view.specs.Dataset.{id_cmp, same_id}
use Rattle.cs_view.specs.Document.{id_of}
use Rattle.cs_view.proofs.Datasets.{same_id-refl}
use Rattle.cs_shelf.specs.Places.{Store, tree_at, most_places}
use Rattle.cs_shelf.specs.declared.shelf.Shelf.{Shelf}
use Rattle.cs_shelf.proofs.Standing.{Entry, AreSound, each_entry, entries_sound}

pub low_place : (d : Shelf) (x : List ℕ) → IfSome (get id_cmp d.order x) (λ p. p < most_places)
low_place d x = by_place (get id_cmp d.order x) refl where
  by_place : (o : Option ℕ) → get id_cmp d.order x ≡ o → IfSome o (λ p. p < most_places)
  by_place None h = tt
  by_place (Some p) h = d.low x p h

pub entries_low : (d : Shelf) → AllByRecursion (λ e. e.1 < most_places) d.order.entries
entries_low d = each_entry (λ x p. p < most_places) d.order.entries d.ordered d.low

abbrev places_of : List Entry → List ℕ
places_of es = map (λ e. e.1) es

abbrev text_of : Option (List ℕ) → List ℕ
text_of None = []
text_of (Some x) = x

one_place : (p q : ℕ) → nat_eq p q ≡ true → p ≡ q
one_place p q h = grind (arith, common_steps)

-- the place of an id is that of no later one
apart : (s : Store) (e f : Entry) → option_map id_of (tree_at s e.1) ≡ Some e.0 → option_map id_of (tree_at s f.1) ≡ Some f.0 → id_cmp e.0 f.0 ≡ Less → nat_eq e.1 f.1 ≡ false
apart s e f own other less = by_test (nat_eq e.1 f.1) refl where
  by_test : (b : Bool) → nat_eq e.1 f.1 ≡ b → b ≡ false
  by_test false h = refl
  by_test true h =
      let one : e.0 ≡ f.0 = ap text_of (sym own ∙ ap (λ (p : ℕ). option_map id_of (tree_at s p)) (one_place e.1 f.1 h) ∙ other) in
      absurd (true≢false (sym (same_id-refl e.0) ∙ ap (same_id e.0) one ∙ ap is_eq less))

apart_all : (s : Store) (e : Entry) (es : List Entry) → option_map id_of (tree_at s e.1) ≡ Some e.0 → AreSound s es → AllByRecursion (λ y. id_cmp e.0 y ≡ Less) (keys_of es) → AllByRecursion (λ q. nat_eq e.1 q ≡ false) (places_of es)
apart_all s e [] own sound less = tt
apart_all s e (f ∷ es) own sound less = (apart s e f own sound.0 less.0, apart_all s e es own sound.1 less.1)

distinct : (s : Store) (es : List Entry) → AreSound s es → IsStrictlySortedBy id_cmp (keys_of es) → IsDistinct nat_eq (places_of es)
unfolding IsDistinct IsStrictlySortedBy
distinct s [] sound sorted = tt
distinct s (e ∷ es) sound sorted = (apart_all s e es sound.0 sound.1 sorted.0, distinct s es sound.1 sorted.1)

below : (es : List Entry) → AllByRecursion (λ e. e.1 < most_places) es → (q : ℕ) → list_any (nat_eq q) (places_of es) ≡ true → q < most_places
below [] h q is = absurd (true≢false (sym is))
below (e ∷ es) h q is = by_test (below es h.1 q) (nat_eq q e.1) refl is where
  by_test : (list_any (nat_eq q) (places_of es) ≡ true → q < most_places) → (b : Bool) → nat_eq q e.1 ≡ b → (b || list_any (nat_eq q) (places_of es)) ≡ true → q < most_places
  by_test later true g k = subst (λ (p : ℕ). p < most_places) (sym (one_place q e.1 g)) h.0
  by_test later false g k = later k

length-places : (es : List Entry) → length (places_of es) ≡ length es
length-places [] = refl
length-places (e ∷ es) = ap suc (length-places es)

-- there are at most as many ids as places
pub few : (d : Shelf) → length d.order.entries ≤ most_places
few d =
    let es = d.order.entries in
    subst (λ (n : ℕ). n ≤ most_places) (length-places es)
    (length-le_from_distinct_below (places_of es) most_places (distinct d.store es (entries_sound d) d.ordered) (below es (entries_low d)))
