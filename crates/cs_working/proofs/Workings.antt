-- What stands in a working dataset.
use Rattle.std.proofs.Common.{◌≡◌, ℕ, List, [], ◌∷◌, Less, Bool, true, false, ◌||◌, cond, Option, Some, None, refl, sym, ap, ◌∙◌}
use Rattle.std.specs.Prelude.{Result, Ok, Err, OnOk}
use Rattle.std.specs.List.{AllByRecursion, list_any}
use Rattle.std.specs.List.Sorted.{IsStrictlySortedBy}
use Rattle.std.specs.Ordering.{is_lt}
use Rattle.std.specs.BTreeSet.{contains}
use Rattle.std.specs.FinMap.Entries.{find, below_all}
use Rattle.std.proofs.lemmas.Bool.{and_from}
use Rattle.cs_value.specs.Tree.{Tree}
use Rattle.cs_view.specs.Dataset.{id_cmp, same_id, standing, ascending, placed}
use Rattle.cs_view.specs.Changes.{ids_ascend, is_of_id, after_changes, after_of}
use Rattle.cs_view.proofs.Datasets.{same_id-same, same_id-sym, standing-is_of_id, standing-placed, ascending-placed, same_docs}
use Rattle.cs_view.proofs.Changed.{OwnIds, standing-after_changes, ascending-after_changes}
use Rattle.cs_shelf.specs.View.{documents}
use Rattle.cs_working.specs.Working.{worked, base, working}
use Rattle.cs_working.specs.declared.working.Working.{Working}

-- the id is among some
abbrev pub is_among : List ℕ → List (List ℕ) → Bool
is_among q ids = list_any (same_id q) ids

find-worked : (q : List ℕ) (ds put : List Tree) (ids : List (List ℕ)) → find id_cmp q (worked ds put ids) ≡ cond (is_among q ids) (Some (standing q ds, standing q put)) None
find-worked q ds put [] = refl
find-worked q ds put (x ∷ ids) = by_test (find-worked q ds put ids) (same_id q x) refl where
  by_test : find id_cmp q (worked ds put ids) ≡ cond (is_among q ids) (Some (standing q ds, standing q put)) None → (b : Bool) → same_id q x ≡ b
      → cond b (Some (standing x ds, standing x put)) (find id_cmp q (worked ds put ids)) ≡ cond (b || is_among q ids) (Some (standing q ds, standing q put)) None
  by_test rest true e = ap (λ (k : List ℕ). Some (standing k ds, standing k put)) (sym (same_id-same q x e))
  by_test rest false e = rest

pub own-worked : (ds put : List Tree) (ids : List (List ℕ)) → OwnIds (worked ds put ids)
own-worked ds put [] = tt
own-worked ds put (x ∷ ids) = ((standing-is_of_id x ds (standing x ds) refl, standing-is_of_id x put (standing x put) refl), own-worked ds put ids)

after_cond : (b : Bool) (s : Option Tree × Option Tree) (now : Option Tree) → after_of (cond b (Some s) None) now ≡ cond b s.1 now
after_cond true s now = refl
after_cond false s now = refl

pub standing-worked : (q : List ℕ) (ds put : List Tree) (ids : List (List ℕ)) → standing q (after_changes ds (worked ds put ids)) ≡ cond (is_among q ids) (standing q put) (standing q ds)
standing-worked q ds put ids =
    standing-after_changes q ds (worked ds put ids) (own-worked ds put ids) ∙ ap (λ f. after_of f (standing q ds)) (find-worked q ds put ids) ∙ after_cond (is_among q ids) (standing q ds, standing q put) (standing q ds)

pub standing-working : (w : Working) (q : List ℕ) → standing q (working w) ≡ cond (contains id_cmp w.touched q) (standing q (documents w.put)) (standing q (base w))
standing-working w q = standing-worked q (base w) (documents w.put) w.touched.keys

-- what is put under an id, or taken away, once the id is touched
pub worked_on : (ds put put' : List Tree) (ids ids' : List (List ℕ)) (id : List ℕ) (o : Option Tree) → ascending ds ≡ true → is_of_id id o ≡ true
    → ((q : List ℕ) → is_among q ids' ≡ cond (same_id id q) true (is_among q ids)) → ((q : List ℕ) → standing q put' ≡ cond (same_id q id) o (standing q put))
    → after_changes ds (worked ds put' ids') ≡ placed id o (after_changes ds (worked ds put ids))
worked_on ds put put' ids ids' id o asc own touched is =
    same_docs (after_changes ds (worked ds put' ids')) (placed id o (after_changes ds (worked ds put ids))) (ascending-after_changes ds (worked ds put' ids') asc) (ascending-placed id o (after_changes ds (worked ds put ids)) (ascending-after_changes ds (worked ds put ids) asc))
    (λ q. standing-worked q ds put' ids' ∙ ap (λ b. cond b (standing q put') (standing q ds)) (touched q ∙ ap (λ b. cond b true (is_among q ids)) (same_id-sym id q))
    ∙ ap (λ t. cond (cond (same_id q id) true (is_among q ids)) t (standing q ds)) (is q) ∙ by_test q (same_id q id)
    ∙ ap (cond (same_id q id) o) (sym (standing-worked q ds put ids)) ∙ sym (standing-placed q id o (after_changes ds (worked ds put ids)) own)) where
      by_test : (q : List ℕ) (b : Bool) → cond (cond b true (is_among q ids)) (cond b o (standing q put)) (standing q ds) ≡ cond b o (cond (is_among q ids) (standing q put) (standing q ds))
      by_test q true = refl
      by_test q false = refl

below-worked : (k : List ℕ) (ds put : List Tree) (ids : List (List ℕ)) → AllByRecursion (λ y. id_cmp k y ≡ Less) ids → below_all id_cmp k (worked ds put ids) ≡ true
below-worked k ds put [] h = refl
below-worked k ds put (x ∷ ids) h = and_from _ _ (ap is_lt h.0) (below-worked k ds put ids h.1)

pub ascend-worked : (ds put : List Tree) (ids : List (List ℕ)) → IsStrictlySortedBy id_cmp ids → ids_ascend (worked ds put ids) ≡ true
unfolding IsStrictlySortedBy
ascend-worked ds put [] h = refl
ascend-worked ds put (x ∷ ids) h = and_from _ _ (below-worked x ds put ids h.0) (ascend-worked ds put ids h.1)

pub on_ok : {A E : Type 0} (r : Result A E) {P Q : Type 0} → OnOk r P → (P → Q) → OnOk r Q
on_ok (Ok a) h f = f h
on_ok (Err e) h f = tt
