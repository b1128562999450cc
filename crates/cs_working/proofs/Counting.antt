-- How many documents a working dataset has.
use Rattle.std.proofs.Common.{◌≡◌, ℕ, ◌+◌, ◌≤◌, List, [], ◌∷◌, length, Bool, true, false, ◌&&◌, cond, Option, Some, None, is_some, refl, sym, ap, ◌∙◌, true≢false, arith}
use Rattle.std.specs.BTreeSet.{BTreeSet, IsOrdered}
use Rattle.std.specs.List.{list_all}
use Rattle.std.specs.List.Sorted.{IsStrictlySortedBy}
use Rattle.std.proofs.lemmas.Bool.{and_from}
use Rattle.cs_value.specs.Tree.{Tree}
use Rattle.cs_view.specs.Dataset.{id_cmp, standing, ascending, stands}
use Rattle.cs_view.specs.Changes.{is_of_id, LeadFrom, after_changes}
use Rattle.cs_view.proofs.Datasets.{standing-is_of_id, same_docs}
use Rattle.cs_view.proofs.Changed.{ascending-after_changes}
use Rattle.cs_shelf.specs.View.{documents}
use Rattle.cs_shelf.proofs.Standing.{ascending-documents}
use Rattle.cs_docs.proofs.Counts.{stood, arriving, counted}
use Rattle.cs_index.specs.View.{store_of}
use Rattle.cs_working.specs.Counted.{standing_among}
use Rattle.cs_working.specs.Noted.{AreNoted}
use Rattle.cs_working.specs.Working.{worked, base, working}
use Rattle.cs_working.specs.declared.working.Working.{Working}
use Rattle.cs_working.proofs.Workings.{is_among, standing-worked, ascend-worked}

stood-worked : (ds put : List Tree) (ids : List (List ℕ)) → stood (worked ds put ids) ≡ standing_among ds ids
stood-worked ds put [] = refl
stood-worked ds put (x ∷ ids) = ap (λ n. cond (stands x ds) 1 0 + n) (stood-worked ds put ids)

arriving-worked : (ds put : List Tree) (ids : List (List ℕ)) → arriving (worked ds put ids) ≡ standing_among put ids
arriving-worked ds put [] = refl
arriving-worked ds put (x ∷ ids) = ap (λ n. cond (stands x put) 1 0 + n) (arriving-worked ds put ids)

leads-worked : (ds put : List Tree) (ids : List (List ℕ)) → LeadFrom ds (worked ds put ids)
leads-worked ds put [] = tt
leads-worked ds put (x ∷ ids) = (refl, leads-worked ds put ids)

own-list : (ds put : List Tree) (ids : List (List ℕ)) → list_all (λ c. is_of_id c.0 c.1.0 && is_of_id c.0 c.1.1) (worked ds put ids) ≡ true
own-list ds put [] = refl
own-list ds put (x ∷ ids) = and_from _ _ (and_from _ _ (standing-is_of_id x ds (standing x ds) refl) (standing-is_of_id x put (standing x put) refl)) (own-list ds put ids)

counted_worked : (ds put : List Tree) (ids : List (List ℕ)) → ascending ds ≡ true → IsStrictlySortedBy id_cmp ids → length (after_changes ds (worked ds put ids)) + standing_among ds ids ≡ length ds + standing_among put ids
counted_worked ds put ids asc sorted =
    let cs = worked ds put ids in
    ap (λ n. length (after_changes ds cs) + n) (sym (stood-worked ds put ids))
    ∙ counted ds cs asc (and_from _ _ (ascend-worked ds put ids sorted) (own-list ds put ids)) (leads-worked ds put ids)
    ∙ ap (λ n. length ds + n) (arriving-worked ds put ids)

none_among : (ids : List (List ℕ)) → standing_among [] ids ≡ 0
none_among [] = refl
none_among (x ∷ ids) = let rest = none_among ids in omega (arith, rest)

-- no more of the ids stand than documents
pub among-le : (ds : List Tree) (ids : List (List ℕ)) → ascending ds ≡ true → IsStrictlySortedBy id_cmp ids → standing_among ds ids ≤ length ds
among-le ds ids asc sorted =
    let all : length (after_changes ds (worked ds [] ids)) + standing_among ds ids ≡ length ds + standing_among [] ids = counted_worked ds [] ids asc sorted in
    let none : standing_among [] ids ≡ 0 = none_among ids in
    omega (arith, all, none)

-- documents of these ids are what changes put into nothing
put_all : (put : List Tree) (touched : BTreeSet (List ℕ)) → ascending put ≡ true → AreNoted put touched → after_changes [] (worked [] put touched.keys) ≡ put
put_all put touched asc noted =
    same_docs (after_changes [] (worked [] put touched.keys)) put (ascending-after_changes [] (worked [] put touched.keys) refl) asc
    (λ q. standing-worked q [] put touched.keys ∙ by_test q (is_among q touched.keys) refl (standing q put) refl) where
      by_test : (q : List ℕ) (b : Bool) → is_among q touched.keys ≡ b → (o : Option Tree) → standing q put ≡ o → cond b o None ≡ o
      by_test q true e o h = refl
      by_test q false e None h = refl
      by_test q false e (Some d) h = absurd (true≢false (sym (noted q (ap is_some h)) ∙ e))

among_all : (put : List Tree) (touched : BTreeSet (List ℕ)) → ascending put ≡ true → AreNoted put touched → IsStrictlySortedBy id_cmp touched.keys → standing_among put touched.keys ≡ length put
among_all put touched asc noted sorted =
    let all : length (after_changes [] (worked [] put touched.keys)) + standing_among [] touched.keys ≡ 0 + standing_among put touched.keys = counted_worked [] put touched.keys refl sorted in
    let none : standing_among [] touched.keys ≡ 0 = none_among touched.keys in
    let same : length (after_changes [] (worked [] put touched.keys)) ≡ length put = ap length (put_all put touched asc noted) in
    omega (arith, all, none, same)

pub counted_working : (w : Working) → IsOrdered id_cmp w.touched → length (working w) + standing_among (base w) w.touched.keys ≡ length (base w) + length (documents w.put)
counted_working w sorted =
    counted_worked (base w) (documents w.put) w.touched.keys (ascending-documents (store_of w.store).shelf) sorted
    ∙ ap (λ n. length (base w) + n) (among_all (documents w.put) w.touched (ascending-documents w.put) w.noted sorted)
