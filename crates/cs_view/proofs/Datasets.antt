-- What stands under an id in a dataset, with a document put there, taken away, or picked.
use Rattle.std.proofs.Common.{◌≡◌, ℕ, List, [], ◌∷◌, map, filter, Bool, true, false, not, cond, Option, Some, None, Ordering, Less, Equal, Greater, refl, sym, ap, subst, ◌∙◌}
use Rattle.std.specs.List.{list_all}
use Rattle.std.specs.Ordering.{is_eq, is_lt, ordering_reverse}
use Rattle.std.proofs.lemmas.Cmp.{nat_list_cmp_total, tied_itself}
use Rattle.std.proofs.lemmas.Map.Lookups.{exact_bytes}
use Rattle.std.specs.FinMap.Entries.{by_order, find, put, where_key, is_sorted, below_all, find-put, is_sorted-put, find-where_key, is_sorted-where_key, same_entries}
use Rattle.std.proofs.lemmas.Bool.{and_from}
use Rattle.cs_value.specs.Tree.{Tree}
use Rattle.cs_view.specs.Document.{id_of, is_document}
use Rattle.cs_view.specs.Dataset.{id_cmp, same_id, keyed, standing, ascending, is_dataset, with_doc, without, placed, kept_if}
use Rattle.cs_view.specs.Changes.{is_of_id, is_document_or_none}
use Rattle.cs_view.proofs.Booleans.{and-left, and-right, to_T, from_T}

is_eq-Equal : (o : Ordering) → is_eq o ≡ true → o ≡ Equal
is_eq-Equal Equal h = refl
is_eq-Equal Less h = cc
is_eq-Equal Greater h = cc

pub is_lt-Less : (o : Ordering) → is_lt o ≡ true → o ≡ Less
is_lt-Less Less h = refl
is_lt-Less Equal h = cc
is_lt-Less Greater h = cc

is_eq-reverse : (o : Ordering) → is_eq (ordering_reverse o) ≡ is_eq o
is_eq-reverse Less = refl
is_eq-reverse Equal = refl
is_eq-reverse Greater = refl

-- two ids compared the other way round
pub id_cmp-flipped : (a b : List ℕ) (o : Ordering) → id_cmp a b ≡ o → id_cmp b a ≡ ordering_reverse o
id_cmp-flipped a b o h = nat_list_cmp_total.antisymm b a ∙ ap ordering_reverse h

pub same_id-same : (a b : List ℕ) → same_id a b ≡ true → a ≡ b
same_id-same a b h = exact_bytes a b (is_eq-Equal (id_cmp a b) h)

pub same_id-refl : (a : List ℕ) → same_id a a ≡ true
same_id-refl a = ap is_eq (tied_itself nat_list_cmp_total a)

pub same_id-sym : (a b : List ℕ) → same_id a b ≡ same_id b a
same_id-sym a b = ap is_eq (nat_list_cmp_total.antisymm a b) ∙ is_eq-reverse (id_cmp b a)

pub lower-differs : (a b : List ℕ) → is_lt (id_cmp a b) ≡ true → same_id a b ≡ false
lower-differs a b h = ap is_eq (is_lt-Less (id_cmp a b) h)

-- an id below all others is not among them
pub find-above : {X : Type 0} (q : List ℕ) (es : List (List ℕ × X)) → below_all id_cmp q es ≡ true → find id_cmp q es ≡ None
find-above q [] h = refl
find-above q (e ∷ es) h =
    ap (λ b. cond b (Some e.1) (find id_cmp q es)) (lower-differs q e.0 (and-left _ _ h)) ∙ find-above q es (and-right (is_lt (id_cmp q e.0)) _ h)

-- a document put among the documents is put among the pairs
pub keyed-with_doc : (d : Tree) (es : List Tree) → keyed (with_doc d es) ≡ put id_cmp (id_of d) d (keyed es)
keyed-with_doc d [] = refl
keyed-with_doc d (e ∷ es) =
    elim (id_cmp (id_of d) (id_of e)) as (λ o. id_cmp (id_of d) (id_of e) ≡ o → keyed (by_order o (d ∷ e ∷ es) (d ∷ es) (e ∷ with_doc d es)) ≡ by_order o ((id_of d, d) ∷ (id_of e, e) ∷ keyed es) ((id_of e, d) ∷ keyed es) ((id_of e, e) ∷ put id_cmp (id_of d) d (keyed es))) [
      | Less ↦ λ h. refl
      | Equal ↦ λ h. ap (λ (k : List ℕ). (k, d) ∷ keyed es) (exact_bytes (id_of d) (id_of e) h)
      | Greater ↦ λ h. ap (λ (r : List (List ℕ × Tree)). (id_of e, e) ∷ r) (keyed-with_doc d es)
    ] refl

pub keyed-without : (id : List ℕ) (es : List Tree) → keyed (without id es) ≡ where_key id_cmp (λ k. not (same_id id k)) (keyed es)
keyed-without id [] = refl
keyed-without id (e ∷ es) =
    elim (not (same_id id (id_of e))) as (λ b. keyed (cond b (e ∷ without id es) (without id es)) ≡ cond b ((id_of e, e) ∷ where_key id_cmp (λ k. not (same_id id k)) (keyed es)) (where_key id_cmp (λ k. not (same_id id k)) (keyed es))) [
      | true ↦ ap (λ (r : List (List ℕ × Tree)). (id_of e, e) ∷ r) (keyed-without id es)
      | false ↦ keyed-without id es
    ]

pub standing-with_doc : (q : List ℕ) (d : Tree) (es : List Tree) → standing q (with_doc d es) ≡ cond (same_id q (id_of d)) (Some d) (standing q es)
standing-with_doc q d es = ap (find id_cmp q) (keyed-with_doc d es) ∙ find-put id_cmp nat_list_cmp_total q (id_of d) d (keyed es)

alike : (id q x : List ℕ) → id_cmp q x ≡ Equal → not (same_id id x) ≡ not (same_id id q)
alike id q x h = ap (λ y. not (same_id id y)) (sym (exact_bytes q x h))

flipped : (a b : Bool) (x y : Option Tree) → a ≡ b → cond (not a) x y ≡ cond b y x
flipped true true x y h = refl
flipped false false x y h = refl
flipped true false x y h = cc
flipped false true x y h = cc

pub standing-without : (q id : List ℕ) (es : List Tree) → standing q (without id es) ≡ cond (same_id q id) None (standing q es)
standing-without q id es = ap (find id_cmp q) (keyed-without id es) ∙ find-where_key id_cmp (λ k. not (same_id id k)) q (alike id q) (keyed es) ∙ flipped _ _ _ _ (same_id-sym id q)

-- what stands under an id after a document, or none, was put in the place of one
pub standing-placed : (q id : List ℕ) (o : Option Tree) (es : List Tree) → is_of_id id o ≡ true → standing q (placed id o es) ≡ cond (same_id q id) o (standing q es)
standing-placed q id None es h = standing-without q id es
standing-placed q id (Some d) es h =
    let e : id ≡ id_of d = same_id-same id (id_of d) h in
    standing-with_doc q d es ∙ ap (λ k. cond (same_id q k) (Some d) (standing q es)) (sym e)

-- the ids still ascend
pub ascending-placed : (id : List ℕ) (o : Option Tree) (es : List Tree) → ascending es ≡ true → ascending (placed id o es) ≡ true
ascending-placed id None es h = ap (is_sorted id_cmp) (keyed-without id es) ∙ from_T _ (is_sorted-where_key id_cmp (λ k. not (same_id id k)) (keyed es) (to_T _ h))
ascending-placed id (Some d) es h = ap (is_sorted id_cmp) (keyed-with_doc d es) ∙ from_T _ (is_sorted-put id_cmp nat_list_cmp_total (id_of d) d (keyed es) (to_T _ h))

all-filter : (p f : Tree → Bool) (es : List Tree) → list_all p es ≡ true → list_all p (filter f es) ≡ true
all-filter p f [] h = refl
all-filter p f (e ∷ es) h =
    let rest = all-filter p f es (and-right (p e) _ h) in
    elim (f e) as (λ b. list_all p (cond b (e ∷ filter f es) (filter f es)) ≡ true) [ true ↦ and_from _ _ (and-left _ _ h) rest | false ↦ rest ]

all-with_doc : (p : Tree → Bool) (d : Tree) (es : List Tree) → p d ≡ true → list_all p es ≡ true → list_all p (with_doc d es) ≡ true
all-with_doc p d [] g h = and_from _ _ g refl
all-with_doc p d (e ∷ es) g h =
    let rest = and-right (p e) _ h in
    elim (id_cmp (id_of d) (id_of e)) as (λ o. list_all p (by_order o (d ∷ e ∷ es) (d ∷ es) (e ∷ with_doc d es)) ≡ true) [
      | Less ↦ and_from _ _ g h
      | Equal ↦ and_from _ _ g rest
      | Greater ↦ and_from _ _ (and-left _ _ h) (all-with_doc p d es g rest)
    ]

pub documents-placed : (id : List ℕ) (o : Option Tree) (es : List Tree) → is_document_or_none o ≡ true → list_all is_document es ≡ true → list_all is_document (placed id o es) ≡ true
documents-placed id None es g h = all-filter is_document (λ d. not (same_id id (id_of d))) es h
documents-placed id (Some d) es g h = all-with_doc is_document d es g h

pub dataset-placed : (id : List ℕ) (o : Option Tree) (es : List Tree) → is_document_or_none o ≡ true → is_dataset es ≡ true → is_dataset (placed id o es) ≡ true
dataset-placed id o es g h = and_from _ _ (ascending-placed id o es (and-left _ _ h)) (documents-placed id o es g (and-right (ascending es) _ h))

unkeyed : (docs : List Tree) → map (λ (p : List ℕ × Tree). p.1) (keyed docs) ≡ docs
unkeyed [] = refl
unkeyed (d ∷ ds) = ap (λ r. d ∷ r) (unkeyed ds)

-- a dataset is known by what stands under each id
pub same_docs : (one other : List Tree) → ascending one ≡ true → ascending other ≡ true → ((q : List ℕ) → standing q one ≡ standing q other) → one ≡ other
same_docs one other g h is =
    sym (unkeyed one) ∙ ap (λ es. map (λ (p : List ℕ × Tree). p.1) es) (same_entries id_cmp nat_list_cmp_total (λ a b e. exact_bytes a b e) (keyed one) (keyed other) (to_T _ g) (to_T _ h) is) ∙ unkeyed other

-- a document that stands under an id has it
pub standing-id : (q : List ℕ) (ds : List Tree) (d : Tree) → standing q ds ≡ Some d → q ≡ id_of d
standing-id q [] d h = absurd (cc)
standing-id q (e ∷ es) d h =
    elim (same_id q (id_of e)) as (λ b. same_id q (id_of e) ≡ b → cond b (Some e) (standing q es) ≡ Some d → q ≡ id_of d) [
      | true ↦ λ t g. let s : e ≡ d = cc in same_id-same q (id_of e) t ∙ ap id_of s
      | false ↦ λ t g. standing-id q es d g
    ] refl h

pub standing-is_of_id : (k : List ℕ) (docs : List Tree) (o : Option Tree) → standing k docs ≡ o → is_of_id k o ≡ true
standing-is_of_id k docs None h = refl
standing-is_of_id k docs (Some d) h = ap (same_id k) (sym (standing-id k docs d h)) ∙ same_id-refl k

-- ---- the documents that pass a test
below-filter : (p : Tree → Bool) (k : List ℕ) (ds : List Tree) → below_all id_cmp k (keyed ds) ≡ true → below_all id_cmp k (keyed (filter p ds)) ≡ true
below-filter p k [] h = refl
below-filter p k (d ∷ ds) h =
    let rest = below-filter p k ds (and-right (is_lt (id_cmp k (id_of d))) _ h) in
    elim (p d) as (λ b. below_all id_cmp k (keyed (cond b (d ∷ filter p ds) (filter p ds))) ≡ true) [ true ↦ and_from _ _ (and-left _ _ h) rest | false ↦ rest ]

pub ascending-filter : (p : Tree → Bool) (ds : List Tree) → ascending ds ≡ true → ascending (filter p ds) ≡ true
ascending-filter p [] h = refl
ascending-filter p (d ∷ ds) h =
    let rest = ascending-filter p ds (and-right (below_all id_cmp (id_of d) (keyed ds)) _ h) in
    elim (p d) as (λ b. ascending (cond b (d ∷ filter p ds) (filter p ds)) ≡ true) [ true ↦ and_from _ _ (below-filter p (id_of d) ds (and-left _ _ h)) rest | false ↦ rest ]

pub standing-filter : (p : Tree → Bool) (q : List ℕ) (ds : List Tree) → ascending ds ≡ true → standing q (filter p ds) ≡ kept_if p (standing q ds)
standing-filter p q [] h = refl
standing-filter p q (d ∷ ds) h = by_tests (standing-filter p q ds (and-right (below_all id_cmp (id_of d) (keyed ds)) _ h)) (p d) refl (same_id q (id_of d)) refl where
  by_tests : standing q (filter p ds) ≡ kept_if p (standing q ds) → (b : Bool) → p d ≡ b → (c : Bool) → same_id q (id_of d) ≡ c
      → standing q (cond b (d ∷ filter p ds) (filter p ds)) ≡ kept_if p (cond c (Some d) (standing q ds))
  by_tests ih true g true t = rw (t, g) refl
  by_tests ih true g false t = rw t ih
  by_tests ih false g false t = ih
  by_tests ih false g true t =
      ih ∙ ap (kept_if p) (subst (λ (z : List ℕ). standing z ds ≡ None) (sym (same_id-same q (id_of d) t)) (find-above (id_of d) (keyed ds) (and-left _ _ h))) ∙ sym (ap (λ b. cond b (Some d) None) g)
