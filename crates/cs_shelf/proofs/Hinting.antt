-- The slots of the ids that have a place, as hints are noted.
use Rattle.std.proofs.Common.{◌≡◌, ℕ, List, ◌∷◌, Option, None, Some, Bool, true, false, cond, refl, sym, ap, ◌∙◌, subst, true≢false}
use Rattle.std.specs.BTreeMap.{get, is_at}
use Rattle.std.specs.Map.{lookup}
use Rattle.cs_view.specs.Dataset.{id_cmp, same_id}
use Rattle.cs_view.proofs.Datasets.{same_id-same}
use Rattle.cs_shelf.specs.Hinted.{AreHinted, is_blank}
use Rattle.cs_shelf.specs.Places.{Order}
use Rattle.cs_shelf.proofs.Standing.{Entry, none_or_some}

-- of each id that is not among the entries to come
pub noted_one : (old new : List ℕ) (m : Order) (e : Entry) (es : List Entry)
    → ((x : List ℕ) (p : ℕ) → lookup (is_at (id_cmp x)) (e ∷ es) ≡ None → get id_cmp m x ≡ Some p → is_blank old x ≡ false)
    → is_blank new e.0 ≡ false
    → ((x : List ℕ) → is_blank old x ≡ false → is_blank new x ≡ false)
    → (x : List ℕ) (p : ℕ) → lookup (is_at (id_cmp x)) es ≡ None → get id_cmp m x ≡ Some p → is_blank new x ≡ false
noted_one old new m e es before own kept x p none some = by_test (same_id x e.0) refl where
  by_test : (b : Bool) → same_id x e.0 ≡ b → is_blank new x ≡ false
  by_test true same = subst (λ (y : List ℕ). is_blank new y ≡ false) (sym (same_id-same x e.0 same)) own
  by_test false other = kept x (before x p (ap (λ b. cond b (Some e.1) (lookup (is_at (id_cmp x)) es)) other ∙ none) some)

-- a place more, whose id is noted
pub hinted_more : (old new : List ℕ) (m n : Order) (id : List ℕ) → AreHinted m old
    → ((x : List ℕ) (p : ℕ) → get id_cmp n x ≡ Some p → same_id id x ≡ false → get id_cmp m x ≡ Some p)
    → is_blank new id ≡ false
    → ((x : List ℕ) → is_blank old x ≡ false → is_blank new x ≡ false)
    → AreHinted n new
hinted_more old new m n id before only own kept x p some = by_test (same_id id x) refl where
  by_test : (b : Bool) → same_id id x ≡ b → is_blank new x ≡ false
  by_test true same = subst (λ (y : List ℕ). is_blank new y ≡ false) (same_id-same id x same) own
  by_test false other = kept x (before x p (only x p some other))

-- where a slot was never noted, no id of it has a place
pub none_where_blank : (m : Order) (slots id : List ℕ) → AreHinted m slots → is_blank slots id ≡ true → None ≡ get id_cmp m id
none_where_blank m slots id hinted blank = by_place (get id_cmp m id) refl where
  by_place : (o : Option ℕ) → get id_cmp m id ≡ o → None ≡ o
  by_place None h = refl
  by_place (Some p) h = absurd (true≢false (sym blank ∙ hinted id p h))

-- a place less
pub hinted_without : (slots : List ℕ) (m n : Order) (id : List ℕ) → AreHinted m slots
    → ((x : List ℕ) → get id_cmp n x ≡ cond (same_id id x) None (get id_cmp m x)) → AreHinted n slots
hinted_without slots m n id hinted gone x p some = by_test (same_id id x) (sym (gone x) ∙ some) where
  by_test : (b : Bool) → cond b None (get id_cmp m x) ≡ Some p → is_blank slots x ≡ false
  by_test true h = absurd (none_or_some p h)
  by_test false h = hinted x p h
