-- The least referrer among those at the entries of a code is that of the whole store.
use Rattle.std.proofs.Common.{◌≡◌, ℕ, List, [], ◌∷◌, Option, Some, None, option_map, Bool, true, false, cond, ◌&&◌, ◌||◌, refl, sym, ap, ◌∙◌, true≢false, nat_eq, eqb-true}
use Rattle.std.specs.BTreeSet.{BTreeSet}
use Rattle.std.specs.BTreeMap.Range.{range_contains}
use Rattle.std.specs.List.{filter, list_any, AllByRecursion}
use Rattle.std.specs.declared.ops.Bound.TheVariants.{Included}
use Rattle.cs_value.specs.Tree.{Tree}
use Rattle.cs_view.specs.Document.{id_of}
use Rattle.cs_view.specs.Dataset.{same_id, standing, kept_if}
use Rattle.cs_view.specs.Keys.{has_ref}
use Rattle.cs_view.specs.declared.key.Key.TheVariants.{Ref}
use Rattle.cs_view.proofs.Datasets.{same_id-refl}
use Rattle.cs_shelf.specs.Places.{found}
use Rattle.cs_shelf.specs.Referring.{next_referrer, above}
use Rattle.cs_value.specs.Words.{first_of}
use Rattle.cs_shelf.proofs.Standing.{at-documents, ascending-documents}
use Rattle.cs_docs.specs.Store.{docs, place_at, doc_at}
use Rattle.cs_docs.specs.Suspects.{lesser}
use Rattle.cs_docs.specs.declared.docs.Docs.{Docs}
use Rattle.cs_docs.proofs.Filters.{keep, first_at, first_lesser, filter_same, members}
use Rattle.cs_codes.specs.Codes.{ref_code, is_among}
use Rattle.cs_codes.specs.Kinds.{side_coded, IsCoded}
use Rattle.cs_codes.specs.declared.coding.Coding.{Coding}
use Rattle.cs_index.specs.Entries.{entry_cmp, entry, AreEntriesOf}
use Rattle.cs_index.specs.Picking.{places_in, under}
use Rattle.cs_index.specs.Referring.{refers, referrer_at, least}
use Rattle.cs_index.specs.declared.entry.Entry.{Entry}
use Rattle.cs_index.proofs.Picked.{is_here, here_filter, inside_low, inside_all, has_codes}

-- what stands there has the document's id
abbrev pub is_named : Option Tree → Tree → Bool
is_named None u = false
is_named (Some t) u = same_id (id_of t) (id_of u)

-- some entry's place has a document of this document's id
abbrev pub is_found : Docs → List Entry → Tree → Bool
is_found d es u = list_any (λ e. is_named (doc_at d e.place) u) es

-- the first of a dataset that passes, and is among some
abbrev pub first_among : (Tree → Bool) → (Tree → Bool) → List Tree → Option Tree
first_among f q ds = first_of (filter (λ u. f u && q u) ds)

none_among : (f : Tree → Bool) (ds : List Tree) → first_among f (λ u. false) ds ≡ None
none_among f [] = refl
none_among f (u ∷ us) = ap (λ b. first_of (cond b (u ∷ filter (λ v. f v && false) us) (filter (λ v. f v && false) us))) (never (f u)) ∙ none_among f us where
  never : (b : Bool) → (b && false) ≡ false
  never true = refl
  never false = refl

keep_kept : (f : Tree → Bool) (o : Option Tree) → kept_if f o ≡ keep f o
keep_kept f None = refl
keep_kept f (Some u) = refl

-- a document that stands at a place is the one with its id
stands : (d : Docs) (p : ℕ) (t : Tree) → doc_at d p ≡ Some t → standing (id_of t) (docs d) ≡ Some t
stands d p t h =
    at-documents d.shelf (id_of t) ∙ (ap (found d.shelf.store) (d.shelf.entered p t h) ∙ h)

-- the referrer at one place is the first of those with the id there
one_place : (d : Docs) (target : List ℕ) (low : Option (List ℕ)) (p : ℕ)
    → referrer_at d target low p ≡ first_among (refers target low) (is_named (doc_at d p)) (docs d)
one_place d target low p = by_doc (doc_at d p) refl where
  f : Tree → Bool
  f = refers target low

  by_doc : (o : Option Tree) → doc_at d p ≡ o → kept_if f o ≡ first_among f (is_named o) (docs d)
  by_doc None h = sym (none_among f (docs d))
  by_doc (Some t) h =
      sym (ap (kept_if f) (stands d p t h))
      ∙ (keep_kept f (standing (id_of t) (docs d)) ∙ sym (first_at f (id_of t) (docs d) (ascending-documents d.shelf)))

regroup : (f q r : Tree → Bool) (es : Tree → Bool) (ds : List Tree)
    → filter (λ u. f u && ((q u || r u) || es u)) ds ≡ filter (λ u. f u && (q u || (r u || es u))) ds
regroup f q r es [] = refl
regroup f q r es (u ∷ us) =
    ap (λ b. cond b (u ∷ filter (λ v. f v && ((q v || r v) || es v)) us) (filter (λ v. f v && ((q v || r v) || es v)) us)) (ap (λ b. f u && b) (assoc (q u) (r u) (es u)))
    ∙ ap (λ vs. cond (f u && (q u || (r u || es u))) (u ∷ vs) vs) (regroup f q r es us) where
      assoc : (a b c : Bool) → ((a || b) || c) ≡ (a || (b || c))
      assoc true b c = refl
      assoc false b c = refl

no_more : (f q : Tree → Bool) (ds : List Tree) → filter (λ u. f u && q u) ds ≡ filter (λ u. f u && (q u || false)) ds
no_more f q [] = refl
no_more f q (u ∷ us) =
    ap (λ b. cond (f u && b) (u ∷ filter (λ v. f v && q v) us) (filter (λ v. f v && q v) us)) (same (q u))
    ∙ ap (λ vs. cond (f u && (q u || false)) (u ∷ vs) vs) (no_more f q us) where
      same : (b : Bool) → b ≡ (b || false)
      same true = refl
      same false = refl

-- the walk over entries, from the first of those that were found so far
walked : (d : Docs) (target : List ℕ) (low : Option (List ℕ)) (es : List Entry) (q : Tree → Bool)
    → least d target low es (first_among (refers target low) q (docs d)) ≡ first_among (refers target low) (λ u. q u || is_found d es u) (docs d)
walked d target low [] q = ap first_of (no_more (refers target low) q (docs d))
walked d target low (e ∷ es) q =
    ap (least d target low es)
    (ap (lesser (first_among (refers target low) q (docs d))) (one_place d target low e.place)
    ∙ sym (first_lesser (refers target low) q (is_named (doc_at d e.place)) (docs d) (ascending-documents d.shelf)))
    ∙ walked d target low es (λ u. q u || is_named (doc_at d e.place) u)
    ∙ ap first_of (regroup (refers target low) q (is_named (doc_at d e.place)) (is_found d es) (docs d))

-- a document whose place is among those of the entries is found
at_entry : (d : Docs) (p : ℕ) (u : Tree) (es : List Entry) → is_named (doc_at d p) u ≡ true → is_here p (places_in es) ≡ true → is_found d es u ≡ true
at_entry d p u [] n h = h
at_entry d p u (e ∷ es) n h = by_test (at_entry d p u es n) (nat_eq e.place p) refl h where
  later : (b : Bool) → is_found d es u ≡ true → (b || is_found d es u) ≡ true
  later true g = refl
  later false g = g

  by_test : (is_here p (places_in es) ≡ true → is_found d es u ≡ true) → (b : Bool) → nat_eq e.place p ≡ b → (b || is_here p (places_in es)) ≡ true → (is_named (doc_at d e.place) u || is_found d es u) ≡ true
  by_test ih true is g = ap (λ (x : ℕ). is_named (doc_at d x) u || is_found d es u) (eqb-true e.place p is) ∙ ap (λ b. b || is_found d es u) n
  by_test ih false is g = later (is_named (doc_at d e.place) u) (ih g)

is_own : (o : Option Tree) (u : Tree) → o ≡ Some u → is_named o u ≡ true
is_own o u h = ap (λ (x : Option Tree). is_named x u) h ∙ same_id-refl (id_of u)

abbrev is_doc : Option Tree → Bool
is_doc None = false
is_doc (Some t) = true

module _ (coding : Coding) (d : Docs) (m : BTreeSet Entry) (target : List ℕ) (kept : IsCoded coding (Ref target)) (are : AreEntriesOf coding m d) where
  -- each document that has the reference is found under its code
  covered : (u : Tree) → standing (id_of u) (docs d) ≡ Some u → has_ref target u ≡ true → is_found d (under m (ref_code coding.seed target)) u ≡ true
  covered u at h = by_place (place_at d (id_of u)) refl where
    c : ℕ
    c = ref_code coding.seed target

    no_doc : Some u ≡ None → ⊥
    no_doc e = true≢false (ap is_doc e)

    by_place : (o : Option ℕ) → place_at d (id_of u) ≡ o → is_found d (under m (ref_code coding.seed target)) u ≡ true
    by_place None g = absurd (no_doc (sym at ∙ at-documents d.shelf (id_of u) ∙ ap (found d.shelf.store) g))
    by_place (Some p) g =
        let there : doc_at d p ≡ Some u = sym (at-documents d.shelf (id_of u) ∙ ap (found d.shelf.store) g) ∙ at in
        at_entry d p u (under m (ref_code coding.seed target)) (is_own (doc_at d p) u there)
        (here_filter (ref_code coding.seed target) p (range_contains entry_cmp (Included (entry (ref_code coding.seed target) 0)) (Included (entry (ref_code coding.seed target) 4294967295)))
        (inside_low (ref_code coding.seed target) p ∙ inside_all p (d.shelf.low (id_of u) p g)) m.keys
        (are (id_of u) (ref_code coding.seed target) p g (ap (λ (o : Option Tree). is_among (ref_code coding.seed target) (side_coded coding o)) at ∙ has_codes coding (Ref target) (Some u) kept h)))

  all_covered : (low : Option (List ℕ)) (us : List Tree) → AllByRecursion (λ u. standing (id_of u) (docs d) ≡ Some u) us
      → AllByRecursion (λ u. (refers target low u && (false || is_found d (under m (ref_code coding.seed target)) u)) ≡ refers target low u) us
  all_covered low [] h = tt
  all_covered low (u ∷ us) h = (one (has_ref target u) refl (above low (id_of u)), all_covered low us h.1) where
    drop_true : (b : Bool) → (b && true) ≡ b
    drop_true true = refl
    drop_true false = refl

    one : (b : Bool) → has_ref target u ≡ b → (a : Bool) → ((b && a) && (false || is_found d (under m (ref_code coding.seed target)) u)) ≡ (b && a)
    one true g a = ap (λ z. a && z) (covered u h.0 g) ∙ drop_true a
    one false g a = refl

  pub least_referrer : (low : Option (List ℕ)) → option_map id_of (least d target low (under m (ref_code coding.seed target)) None) ≡ next_referrer (docs d) target low
  least_referrer low =
      let es : List Entry = under m (ref_code coding.seed target) in
      ap (option_map id_of)
      (ap (least d target low es) (sym (none_among (refers target low) (docs d)))
      ∙ walked d target low es (λ u. false)
      ∙ ap first_of (filter_same (λ u. refers target low u && (false || is_found d es u)) (refers target low) (docs d) (all_covered low (docs d) (members (docs d) (ascending-documents d.shelf)))))
