-- A map of documents by their ids beside the dataset that it is.
use Rattle.std.proofs.Common.{◌≡◌, ◌∙◌, ap, sym, refl, subst, ℕ, suc, zero, ◌+◌, ◌-◌, ◌<◌, ◌≤◌, List, [], ◌∷◌, ◌++◌, length, map, true, false, cond, Some, is_some, Result, Ok, Err, Less, Equal, Greater, is_eq, arith}
use Rattle.std.proofs.lemmas.Cmp.{nat_list_cmp_total}
use Rattle.std.proofs.lemmas.List.{map-append}
use Rattle.std.specs.FinMap.Entries.{below_all}
use Rattle.std.specs.List.{slice_get}
use Rattle.std.specs.Map.{lookup, values_of}
use Rattle.std.specs.Result.{OnOk, OnErr}
use Rattle.std.specs.Ordering.{match_ordering, is_lt}
use Rattle.std.specs.BTreeMap.{insert_entry, is_at}
use Rattle.cs_value.specs.Tree.{Tree}
use Rattle.cs_view.specs.Document.{id_of}
use Rattle.cs_view.specs.Dataset.{id_cmp, keyed, standing, stands, with_doc, ascending}
use Rattle.cs_view.specs.View.{document_of}
use Rattle.cs_view.specs.declared.doc.Doc.{Doc}
use Rattle.cs_view.proofs.Datasets.{is_lt-Less, id_cmp-flipped}
use Rattle.cs_view.proofs.Booleans.{and-left, and-right}
use Rattle.cs_docs.specs.Limits.{most_documents}
use Rattle.cs_load.specs.Gathered.{gathered, AreById, IsGapFor}
use Rattle.cs_load.proofs.Placing.{same, ascending-with_doc}

abbrev pub Entry : Type 0
Entry = List ℕ × Doc

first_by_id : (e : Entry) (es : List Entry) → AreById (e ∷ es) → e.0 ≡ id_of (document_of e.1)
first_by_id e es h = cc

later_by_id : (e : Entry) (es : List Entry) → AreById (e ∷ es) → AreById es
later_by_id e es h = cc

by_id : (k : List ℕ) (d : Doc) (es : List Entry) → k ≡ id_of (document_of d) → AreById es → AreById ((k, d) ∷ es)
by_id k d es is h = cc

-- what the map's look-up by an id finds
pub found_id : (id : List ℕ) (es : List Entry) → AreById es → is_some (lookup (is_at (id_cmp id)) es) ≡ stands id (gathered es)
found_id id [] h = refl
found_id id (e ∷ es) h =
    elim (is_eq (id_cmp id e.0)) as (λ b. is_some (cond b (Some e.1) (lookup (is_at (id_cmp id)) es)) ≡ is_some (cond b (Some (document_of e.1)) (standing id (gathered es)))) [
      | true ↦ refl
      | false ↦ found_id id es (later_by_id e es h)
    ] ∙ ap (λ k. is_some (cond (is_eq (id_cmp id k)) (Some (document_of e.1)) (standing id (gathered es)))) (first_by_id e es h)

pub gathered-insert : (es : List Entry) (k : List ℕ) (d : Doc) → k ≡ id_of (document_of d) → AreById es → gathered (insert_entry id_cmp es k d) ≡ with_doc (document_of d) (gathered es)
gathered-insert [] k d is h = refl
gathered-insert (e ∷ es) k d is h =
    let order : id_cmp k e.0 ≡ id_cmp (id_of (document_of d)) (id_of (document_of e.1)) = ap (λ a. id_cmp a e.0) is ∙ ap (id_cmp (id_of (document_of d))) (first_by_id e es h) in
    rw order (elim (id_cmp (id_of (document_of d)) (id_of (document_of e.1))) as (λ o. gathered (match_ordering o ((k, d) ∷ e ∷ es) ((e.0, d) ∷ es) (e ∷ insert_entry id_cmp es k d)) ≡ match_ordering o (document_of d ∷ gathered (e ∷ es)) (document_of d ∷ gathered es) (document_of e.1 ∷ with_doc (document_of d) (gathered es))) [
      | Less ↦ refl
      | Equal ↦ refl
      | Greater ↦ ap (λ r. document_of e.1 ∷ r) (gathered-insert es k d is (later_by_id e es h))
    ])

pub by_id-insert : (es : List Entry) (k : List ℕ) (d : Doc) → k ≡ id_of (document_of d) → AreById es → AreById (insert_entry id_cmp es k d)
by_id-insert [] k d is h = by_id k d [] is refl
by_id-insert (e ∷ es) k d is h =
    elim (id_cmp k e.0) as (λ o. id_cmp k e.0 ≡ o → AreById (match_ordering o ((k, d) ∷ e ∷ es) ((e.0, d) ∷ es) (e ∷ insert_entry id_cmp es k d))) [
      | Less ↦ λ o. by_id k d (e ∷ es) is h
      | Equal ↦ λ o. by_id e.0 d es (sym (same k e.0 o) ∙ is) (later_by_id e es h)
      | Greater ↦ λ o. by_id e.0 e.1 (insert_entry id_cmp es k d) (first_by_id e es h) (by_id-insert es k d is (later_by_id e es h))
    ] refl

pub gathered_length : (es : List Entry) → length (gathered es) ≡ length es
gathered_length [] = refl
gathered_length (e ∷ es) = ap suc (gathered_length es)

pub map_length : (ds : List Doc) → length (map document_of ds) ≡ length ds
map_length [] = refl
map_length (d ∷ ds) = ap suc (map_length ds)

length-with_doc : (d : Tree) (es : List Tree) → length (with_doc d es) ≤ length es + 1
length-with_doc d [] = omega arith
length-with_doc d (e ∷ es) =
    elim (id_cmp (id_of d) (id_of e)) as (λ o. length (match_ordering o (d ∷ e ∷ es) (d ∷ es) (e ∷ with_doc d es)) ≤ length (e ∷ es) + 1) [
      | Less ↦ omega arith
      | Equal ↦ omega arith
      | Greater ↦ omega (arith, length-with_doc d es)
    ]

-- what the documents keep when one is put among them
pub kept_with : (d : Tree) (es new : List Tree) → new ≡ with_doc d es → ascending es ≡ true → length es < most_documents → (ascending new ≡ true) × (length new ≤ most_documents)
kept_with d es new is h room = (ap ascending is ∙ ascending-with_doc d es h, omega (arith, ap length is, length-with_doc d es, room))

-- and so it is after a document was put into a map, or was not
pub kept_after : {A E : Type 0} (r : Result A E) (es new : List Entry) (d : Tree) → OnOk r (gathered new ≡ with_doc d (gathered es)) → OnErr r (new ≡ es) → ascending (gathered es) ≡ true → length (gathered es) < most_documents
    → (ascending (gathered new) ≡ true) × (length (gathered new) ≤ most_documents)
kept_after (Ok x) es new d ok err h room = kept_with d (gathered es) (gathered new) ok h room
kept_after (Err x) es new d ok err h room = (ap (λ fs. ascending (gathered fs)) err ∙ h, omega (arith, ap (λ fs. length (gathered fs)) err, room))

-- ---- documents in order, and an id above theirs

below_in : (k : List ℕ) (done : List Tree) (d : Tree) (more : List Tree) → below_all id_cmp k (keyed (done ++ d ∷ more)) ≡ true → id_cmp k (id_of d) ≡ Less
below_in k [] d more h = is_lt-Less (id_cmp k (id_of d)) (and-left _ _ h)
below_in k (e ∷ done) d more h = below_in k done d more (and-right (is_lt (id_cmp k (id_of e))) _ h)

-- the id of a document is above those before it
past_prefix : (done : List Tree) (d : Tree) (more : List Tree) → ascending (done ++ d ∷ more) ≡ true → IsGapFor (id_of d) done (length done)
past_prefix [] d more h = tt
past_prefix (e ∷ done) d more h = (
  id_cmp-flipped (id_of e) (id_of d) Less (below_in (id_of e) done d more (and-left _ _ h)),
  past_prefix done d more (and-right (below_all id_cmp (id_of e) (keyed (done ++ d ∷ more))) _ h),
)

put_last : (d : Tree) (es : List Tree) → IsGapFor (id_of d) es (length es) → with_doc d es ≡ es ++ d ∷ []
put_last d [] h = refl
put_last d (e ∷ es) h = rw h.0 (ap (λ r. e ∷ r) (put_last d es h.1))

-- a document whose id is above all goes last
pub pushed : (ds new : List Doc) (d : Doc) → IsGapFor (id_of (document_of d)) (map document_of ds) (length ds) → new ≡ ds ++ d ∷ [] → map document_of new ≡ with_doc (document_of d) (map document_of ds)
pushed ds new d h is =
    ap (map document_of) is ∙ map-append document_of ds (d ∷ []) ∙ sym (put_last (document_of d) (map document_of ds) (subst (IsGapFor (id_of (document_of d)) (map document_of ds)) (sym (map_length ds)) h))

-- and so does the next of some in order
pub next_in_order : (done : List Doc) (d : Doc) (more : List Doc) → ascending (map document_of (done ++ d ∷ more)) ≡ true → with_doc (document_of d) (map document_of done) ≡ map document_of (done ++ d ∷ [])
next_in_order done d more h =
    put_last (document_of d) (map document_of done) (past_prefix (map document_of done) (document_of d) (map document_of more) (subst (λ es. ascending es ≡ true) (map-append document_of done (d ∷ more)) h)) ∙ sym (map-append document_of done (d ∷ []))

above_at : (id : List ℕ) (d : Doc) (ds : List Doc) (i : ℕ) (last : Doc) → i ≡ length ds → ascending (map document_of (d ∷ ds)) ≡ true → Some last ≡ slice_get (d ∷ ds) i → id_cmp id (id_of (document_of last)) ≡ Greater → IsGapFor id (map document_of (d ∷ ds)) (suc (length ds))
above_at id d [] zero last len h is above =
    let same : last ≡ d = cc in
    (ap (λ x. id_cmp id (id_of (document_of x))) (sym same) ∙ above, tt)
above_at id d [] (suc i) last len h is above = absurd (omega arith)
above_at id d (e ∷ ds) zero last len h is above = absurd (omega arith)
above_at id d (e ∷ ds) (suc i) last len h is above =
    let rest = above_at id e ds i last (omega arith) (and-right (below_all id_cmp (id_of (document_of d)) (keyed (map document_of (e ∷ ds)))) _ h) is above in
    let first = below_in (id_of (document_of d)) [] (document_of e) (map document_of ds) (and-left _ _ h) in
    (id_cmp-flipped (id_of (document_of d)) id Less (nat_list_cmp_total.trans (id_of (document_of d)) (id_of (document_of e)) id first (id_cmp-flipped id (id_of (document_of e)) Greater rest.0)), rest)

-- an id above that of the last document is above all
pub above_last : (id : List ℕ) (ds : List Doc) (last : Doc) → ascending (map document_of ds) ≡ true → Some last ≡ slice_get ds (length ds - 1) → id_cmp id (id_of (document_of last)) ≡ Greater → IsGapFor id (map document_of ds) (length ds)
above_last id [] last h is above = tt
above_last id (d ∷ ds) last h is above =
    let place : length (d ∷ ds) - 1 ≡ length ds = omega arith in
    above_at id d ds (length ds) last refl h (is ∙ ap (slice_get (d ∷ ds)) place) above

pub gathered_values : (es : List Entry) → map document_of (values_of es) ≡ gathered es
gathered_values [] = refl
gathered_values (e ∷ es) = ap (λ r. document_of e.1 ∷ r) (gathered_values es)
