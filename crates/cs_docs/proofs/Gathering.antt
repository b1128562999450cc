-- The changes that put documents into the empty store.
use Rattle.std.proofs.Common.{◌≡◌, ℕ, List, [], ◌∷◌, map, Bool, true, false, ◌&&◌, cond, None, Some, refl, ◌∙◌}
use Rattle.std.specs.List.{list_all}
use Rattle.std.specs.Ordering.{is_lt}
use Rattle.std.specs.FinMap.Entries.{find, below_all}
use Rattle.std.proofs.lemmas.Bool.{and_from}
use Rattle.cs_view.specs.Document.{id_of}
use Rattle.cs_view.specs.Dataset.{id_cmp, same_id, keyed, standing, ascending}
use Rattle.cs_view.specs.Changes.{ids_ascend, is_of_id, are_changes, LeadFrom, after_changes, after_of}
use Rattle.cs_view.specs.View.{document_of}
use Rattle.cs_view.specs.declared.doc.Doc.{Doc}
use Rattle.cs_view.proofs.Booleans.{and-left, and-right}
use Rattle.cs_view.proofs.Datasets.{same_id-refl, same_docs}
use Rattle.cs_view.proofs.Changed.{own_ids, standing-after_changes, ascending-after_changes}
use Rattle.cs_docs.specs.Gathered.{entering}

below-entering : (k : List ℕ) (ds : List Doc) → below_all id_cmp k (keyed (map document_of ds)) ≡ true → below_all id_cmp k (entering (map document_of ds)) ≡ true
below-entering k [] h = refl
below-entering k (d ∷ ds) h = and_from _ _ (and-left _ _ h) (below-entering k ds (and-right (is_lt (id_cmp k (id_of (document_of d)))) _ h))

ascend-entering : (ds : List Doc) → ascending (map document_of ds) ≡ true → ids_ascend (entering (map document_of ds)) ≡ true
ascend-entering [] h = refl
ascend-entering (d ∷ ds) h =
    and_from _ _ (below-entering (id_of (document_of d)) ds (and-left _ _ h)) (ascend-entering ds (and-right (below_all id_cmp (id_of (document_of d)) (keyed (map document_of ds))) _ h))

own-entering : (ds : List Doc) → list_all (λ c. is_of_id c.0 c.1.0 && is_of_id c.0 c.1.1) (entering (map document_of ds)) ≡ true
own-entering [] = refl
own-entering (d ∷ ds) = and_from _ _ (same_id-refl (id_of (document_of d))) (own-entering ds)

pub are_entering : (ds : List Doc) → ascending (map document_of ds) ≡ true → are_changes (entering (map document_of ds)) ≡ true
are_entering ds h = and_from _ _ (ascend-entering ds h) (own-entering ds)

pub lead_entering : (ds : List Doc) → LeadFrom [] (entering (map document_of ds))
lead_entering [] = tt
lead_entering (d ∷ ds) = (refl, lead_entering ds)

found-entering : (q : List ℕ) (ds : List Doc) → after_of (find id_cmp q (entering (map document_of ds))) None ≡ standing q (map document_of ds)
found-entering q [] = refl
found-entering q (d ∷ ds) = by_test (found-entering q ds) (same_id q (id_of (document_of d))) where
  by_test : after_of (find id_cmp q (entering (map document_of ds))) None ≡ standing q (map document_of ds) → (b : Bool)
      → after_of (cond b (Some (None, Some (document_of d))) (find id_cmp q (entering (map document_of ds)))) None ≡ cond b (Some (document_of d)) (standing q (map document_of ds))
  by_test rest true = refl
  by_test rest false = rest

-- after them the documents stand
pub after_entering : (ds : List Doc) → ascending (map document_of ds) ≡ true → after_changes [] (entering (map document_of ds)) ≡ map document_of ds
after_entering ds h =
    same_docs (after_changes [] (entering (map document_of ds))) (map document_of ds) (ascending-after_changes [] (entering (map document_of ds)) refl) h
    (λ q. standing-after_changes q [] (entering (map document_of ds)) (own_ids (entering (map document_of ds)) (are_entering ds h)) ∙ found-entering q ds)
