-- What a working dataset keeps.
use Rattle.std.specs.Prelude.{◌≡◌, ℕ, List, [], ◌∷◌, true, false, cond, Some}
use Rattle.std.specs.List.{list_all}
use Rattle.std.proofs.Common.{refl}
use Rattle.std.proofs.lemmas.Bool.{and_from}
use Rattle.cs_value.specs.Tree.{Tree}
use Rattle.cs_view.specs.Document.{id_of, is_document}
use Rattle.cs_view.specs.Dataset.{standing, same_id, ascending, is_dataset}
use Rattle.cs_view.specs.Changes.{is_document_or_none, are_documents}
use Rattle.cs_view.proofs.Booleans.{and-left, and-right}
use Rattle.cs_view.proofs.Changed.{dataset-after_changes}
use Rattle.cs_shelf.specs.View.{documents}
use Rattle.cs_shelf.proofs.Standing.{dataset}
use Rattle.cs_index.specs.View.{store_of}
use Rattle.cs_working.specs.Working.{worked, base, working}
use Rattle.cs_working.specs.declared.working.Working.{Working}

-- what stands in a dataset is a document
is_document_at : (q : List ℕ) (docs : List Tree) → list_all is_document docs ≡ true
    → is_document_or_none (standing q docs) ≡ true
is_document_at q [] h = refl
is_document_at q (d ∷ ds) h =
    elim (same_id q (id_of d))
    as (λ b. is_document_or_none (cond b (Some d) (standing q ds)) ≡ true) [
      | true ↦ and-left _ _ h
      | false ↦ is_document_at q ds (and-right (is_document d) _ h)
    ]

are_documents_worked : (docs put : List Tree) (ids : List (List ℕ))
    → list_all is_document docs ≡ true → list_all is_document put ≡ true
    → are_documents (worked docs put ids) ≡ true
are_documents_worked docs put [] g h = refl
are_documents_worked docs put (x ∷ ids) g h =
    and_from _ _ (and_from _ _ (is_document_at x docs g) (is_document_at x put h))
    (are_documents_worked docs put ids g h)

-- it is a dataset
pub is_dataset_of : (w : Working) → is_dataset (working w) ≡ true
is_dataset_of w =
    let before : is_dataset (base w) ≡ true = dataset (store_of w.store).shelf in
    let put : is_dataset (documents w.put) ≡ true = dataset w.put in
    dataset-after_changes (base w) (worked (base w) (documents w.put) w.touched.keys) before
    (are_documents_worked (base w) (documents w.put) w.touched.keys
    (and-right (ascending (base w)) _ before) (and-right (ascending (documents w.put)) _ put))
