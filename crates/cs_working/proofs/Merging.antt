-- The places of the store's documents that have a key, less those of touched ids, and among them those of what is put that has it, are those of the working dataset's.
use Rattle.std.proofs.Common.{◌≡◌, ℕ, List, [], ◌∷◌, ◌++◌, Bool, true, false, cond, Option, Some, None, is_some, Ordering, Less, Equal, Greater, refl, sym, ap, ◌∙◌, true≢false}
use Rattle.std.proofs.lemmas.Cmp.{nat_list_cmp_total}
use Rattle.std.specs.BTreeSet.{contains}
use Rattle.std.specs.List.{AllByRecursion, filter}
use Rattle.std.specs.Ordering.{is_eq, is_lt, ordering_reverse}
use Rattle.std.proofs.lemmas.Bool.{and_from}
use Rattle.cs_value.specs.Tree.{Tree}
use Rattle.cs_view.specs.Document.{id_of}
use Rattle.cs_view.specs.Dataset.{id_cmp, same_id, standing, ascending, kept_if}
use Rattle.cs_view.specs.Keys.{has_all, selected}
use Rattle.cs_view.specs.declared.key.Key.{Key}
use Rattle.cs_view.proofs.Changed.{ascending-after_changes}
use Rattle.cs_view.proofs.Datasets.{same_id-same, same_docs, ascending-filter, standing-filter, is_lt-Less}
use Rattle.cs_shelf.specs.View.{documents}
use Rattle.cs_shelf.proofs.Standing.{ascending-documents}
use Rattle.cs_docs.proofs.Filters.{IsBelow, below-head, below-tail, head-below, tail-ascends, members}
use Rattle.cs_index.specs.View.{store_of}
use Rattle.cs_working.specs.Working.{worked, base, working}
use Rattle.cs_working.specs.declared.working.Working.{Working}
use Rattle.cs_working.proofs.Workings.{standing-working}

-- the first documents, as far as their ids are below this one, and those after them
abbrev pub lower_docs : List ℕ → List Tree → List Tree
lower_docs id [] = []
lower_docs id (d ∷ ds) = cond (is_lt (id_cmp (id_of d) id)) (d ∷ lower_docs id ds) []

abbrev pub upper_docs : List ℕ → List Tree → List Tree
upper_docs id [] = []
upper_docs id (d ∷ ds) = cond (is_lt (id_cmp (id_of d) id)) (upper_docs id ds) (d ∷ ds)

abbrev pub merged_docs : (List ℕ → Bool) → List Tree → List Tree → List Tree
merged_docs touched [] ps = ps
merged_docs touched (d ∷ ds) ps = cond (touched (id_of d)) (merged_docs touched ds ps) (lower_docs (id_of d) ps ++ d ∷ merged_docs touched ds (upper_docs (id_of d) ps))

-- a fact of each document holds of the documents of both parts
pub all-lower : (P : Tree → Type 0) (id : List ℕ) (ds : List Tree) → AllByRecursion P ds → AllByRecursion P (lower_docs id ds)
all-lower P id [] h = tt
all-lower P id (d ∷ ds) h =
    let rest = all-lower P id ds h.1 in
    elim (is_lt (id_cmp (id_of d) id)) as (λ b. AllByRecursion P (cond b (d ∷ lower_docs id ds) [])) [ true ↦ (h.0, rest) | false ↦ tt ]

pub all-upper : (P : Tree → Type 0) (id : List ℕ) (ds : List Tree) → AllByRecursion P ds → AllByRecursion P (upper_docs id ds)
all-upper P id [] h = tt
all-upper P id (d ∷ ds) h =
    let rest = all-upper P id ds h.1 in
    elim (is_lt (id_cmp (id_of d) id)) as (λ b. AllByRecursion P (cond b (upper_docs id ds) (d ∷ ds))) [ true ↦ rest | false ↦ h ]

pub all-filter : (P : Tree → Type 0) (p : Tree → Bool) (ds : List Tree) → AllByRecursion P ds → AllByRecursion P (filter p ds)
all-filter P p [] h = tt
all-filter P p (d ∷ ds) h =
    let rest = all-filter P p ds h.1 in
    elim (p d) as (λ b. AllByRecursion P (cond b (d ∷ filter p ds) (filter p ds))) [ true ↦ (h.0, rest) | false ↦ rest ]

-- ---- what stands under an id
abbrev or_else : Option Tree → Option Tree → Option Tree
or_else None b = b
or_else (Some a) b = Some a

standing-append : (q : List ℕ) (xs ys : List Tree) → standing q (xs ++ ys) ≡ or_else (standing q xs) (standing q ys)
standing-append q [] ys = refl
standing-append q (x ∷ xs) ys =
    let rest = standing-append q xs ys in
    elim (same_id q (id_of x)) as (λ b. cond b (Some x) (standing q (xs ++ ys)) ≡ or_else (cond b (Some x) (standing q xs)) (standing q ys)) [ true ↦ refl | false ↦ rest ]

parted : (id : List ℕ) (ds : List Tree) → lower_docs id ds ++ upper_docs id ds ≡ ds
parted id [] = refl
parted id (d ∷ ds) =
    let rest = ap (λ r. d ∷ r) (parted id ds) in
    elim (is_lt (id_cmp (id_of d) id)) as (λ b. cond b (d ∷ lower_docs id ds) [] ++ cond b (upper_docs id ds) (d ∷ ds) ≡ d ∷ ds) [ true ↦ rest | false ↦ refl ]

module _ (touched : List ℕ → Bool) where
  abbrev pub AreTouched : List Tree → Type 0
  AreTouched ds = AllByRecursion (λ d. touched (id_of d) ≡ true) ds

  apart : (a b : List ℕ) → touched a ≡ true → touched b ≡ false → same_id b a ≡ false
  apart a b g h = by_test (same_id b a) refl where
    by_test : (t : Bool) → same_id b a ≡ t → t ≡ false
    by_test false e = refl
    by_test true e = absurd (true≢false (sym g ∙ ap touched (sym (same_id-same b a e)) ∙ h))

  standing-untouched : (q : List ℕ) (ds : List Tree) → AreTouched ds → touched q ≡ false → standing q ds ≡ None
  standing-untouched q [] all h = refl
  standing-untouched q (d ∷ ds) all h = ap (λ b. cond b (Some d) (standing q ds)) (apart (id_of d) q all.0 h) ∙ standing-untouched q ds all.1 h

  pub standing-merged : (q : List ℕ) (ds ps : List Tree) → AreTouched ps → standing q (merged_docs touched ds ps) ≡ cond (touched q) (standing q ps) (standing q ds)
  standing-merged q [] ps all = by_test (touched q) refl where
    by_test : (b : Bool) → touched q ≡ b → standing q ps ≡ cond b (standing q ps) None
    by_test true e = refl
    by_test false e = standing-untouched q ps all e
  standing-merged q (d ∷ ds) ps all = by_tests (touched (id_of d)) refl (touched q) refl (standing-merged q ds ps all) (standing-merged q ds (upper_docs (id_of d) ps) (all-upper _ (id_of d) ps all)) where
    low : List Tree
    low = lower_docs (id_of d) ps

    high : List Tree
    high = upper_docs (id_of d) ps

    by_tests : (b : Bool) → touched (id_of d) ≡ b → (c : Bool) → touched q ≡ c
        → standing q (merged_docs touched ds ps) ≡ cond (touched q) (standing q ps) (standing q ds)
        → standing q (merged_docs touched ds high) ≡ cond (touched q) (standing q high) (standing q ds)
        → standing q (cond b (merged_docs touched ds ps) (low ++ d ∷ merged_docs touched ds high)) ≡ cond c (standing q ps) (cond (same_id q (id_of d)) (Some d) (standing q ds))
    by_tests true e true f here there = here ∙ ap (λ t. cond t (standing q ps) (standing q ds)) f
    by_tests true e false f here there = here ∙ ap (λ t. cond t (standing q ps) (standing q ds)) f ∙ sym (ap (λ t. cond t (Some d) (standing q ds)) (apart (id_of d) q e f))
    by_tests false e true f here there =
        standing-append q low (d ∷ merged_docs touched ds high)
        ∙ ap (λ t. or_else (standing q low) (cond t (Some d) (standing q (merged_docs touched ds high)))) (other e f)
        ∙ ap (or_else (standing q low)) (there ∙ ap (λ t. cond t (standing q high) (standing q ds)) f)
        ∙ sym (standing-append q low high) ∙ ap (standing q) (parted (id_of d) ps) where
          other : touched (id_of d) ≡ false → touched q ≡ true → same_id q (id_of d) ≡ false
          other g h = by_test (same_id q (id_of d)) refl where
            by_test : (t : Bool) → same_id q (id_of d) ≡ t → t ≡ false
            by_test false s = refl
            by_test true s = absurd (true≢false (sym h ∙ ap touched (same_id-same q (id_of d) s) ∙ g))
    by_tests false e false f here there =
        standing-append q low (d ∷ merged_docs touched ds high)
        ∙ ap (λ o. or_else o (cond (same_id q (id_of d)) (Some d) (standing q (merged_docs touched ds high)))) (standing-untouched q low (all-lower _ (id_of d) ps all) f)
        ∙ ap (cond (same_id q (id_of d)) (Some d)) (there ∙ ap (λ t. cond t (standing q high) (standing q ds)) f)

-- ---- the ids ascend
below-trans : (k j : List ℕ) (ds : List Tree) → id_cmp k j ≡ Less → IsBelow j ds → IsBelow k ds
below-trans k j [] l h = refl
below-trans k j (d ∷ ds) l h = and_from _ _ (ap is_lt (nat_list_cmp_total.trans k j (id_of d) l (below-head j d ds h))) (below-trans k j ds l (below-tail j d ds h))

below-append : (k : List ℕ) (xs ys : List Tree) → IsBelow k xs → IsBelow k ys → IsBelow k (xs ++ ys)
below-append k [] ys g h = h
below-append k (x ∷ xs) ys g h = and_from _ _ (ap is_lt (below-head k x xs g)) (below-append k xs ys (below-tail k x xs g) h)

below-lower : (k id : List ℕ) (ds : List Tree) → IsBelow k ds → IsBelow k (lower_docs id ds)
below-lower k id [] h = refl
below-lower k id (d ∷ ds) h =
    let rest = below-lower k id ds (below-tail k d ds h) in
    elim (is_lt (id_cmp (id_of d) id)) as (λ b. IsBelow k (cond b (d ∷ lower_docs id ds) [])) [ true ↦ and_from _ _ (ap is_lt (below-head k d ds h)) rest | false ↦ refl ]

below-upper : (k id : List ℕ) (ds : List Tree) → IsBelow k ds → IsBelow k (upper_docs id ds)
below-upper k id [] h = refl
below-upper k id (d ∷ ds) h =
    let rest = below-upper k id ds (below-tail k d ds h) in
    elim (is_lt (id_cmp (id_of d) id)) as (λ b. IsBelow k (cond b (upper_docs id ds) (d ∷ ds))) [ true ↦ rest | false ↦ h ]

ascending-lower : (id : List ℕ) (ds : List Tree) → ascending ds ≡ true → ascending (lower_docs id ds) ≡ true
ascending-lower id [] h = refl
ascending-lower id (d ∷ ds) h =
    let rest = ascending-lower id ds (tail-ascends d ds h) in
    elim (is_lt (id_cmp (id_of d) id)) as (λ b. ascending (cond b (d ∷ lower_docs id ds) []) ≡ true) [ true ↦ and_from _ _ (below-lower (id_of d) id ds (head-below d ds h)) rest | false ↦ refl ]

ascending-upper : (id : List ℕ) (ds : List Tree) → ascending ds ≡ true → ascending (upper_docs id ds) ≡ true
ascending-upper id [] h = refl
ascending-upper id (d ∷ ds) h =
    let rest = ascending-upper id ds (tail-ascends d ds h) in
    elim (is_lt (id_cmp (id_of d) id)) as (λ b. ascending (cond b (upper_docs id ds) (d ∷ ds)) ≡ true) [ true ↦ rest | false ↦ h ]

lower-less : (id : List ℕ) (ds : List Tree) → AllByRecursion (λ d. id_cmp (id_of d) id ≡ Less) (lower_docs id ds)
lower-less id [] = tt
lower-less id (d ∷ ds) = by_test (is_lt (id_cmp (id_of d) id)) refl (lower-less id ds) where
  by_test : (b : Bool) → is_lt (id_cmp (id_of d) id) ≡ b → AllByRecursion (λ e. id_cmp (id_of e) id ≡ Less) (lower_docs id ds) → AllByRecursion (λ e. id_cmp (id_of e) id ≡ Less) (cond b (d ∷ lower_docs id ds) [])
  by_test true e rest = (is_lt-Less _ e, rest)
  by_test false e rest = tt

-- of two ids that are not the same, and the first not below the second, the second is below
turned : (o : Ordering) → is_lt o ≡ false → is_eq o ≡ false → ordering_reverse o ≡ Less
turned Less g h = absurd (true≢false g)
turned Equal g h = absurd (true≢false h)
turned Greater g h = refl

upper-above : (touched : List ℕ → Bool) (id : List ℕ) (ds : List Tree) → touched id ≡ false → AreTouched touched ds → ascending ds ≡ true → IsBelow id (upper_docs id ds)
upper-above touched id [] apart_from all asc = refl
upper-above touched id (d ∷ ds) apart_from all asc = by_test (is_lt (id_cmp (id_of d) id)) refl (upper-above touched id ds apart_from all.1 (tail-ascends d ds asc)) where
  over : is_lt (id_cmp (id_of d) id) ≡ false → id_cmp id (id_of d) ≡ Less
  over h = nat_list_cmp_total.antisymm id (id_of d) ∙ turned (id_cmp (id_of d) id) h (by_same (same_id (id_of d) id) refl) where
    by_same : (t : Bool) → same_id (id_of d) id ≡ t → t ≡ false
    by_same false e = refl
    by_same true e = absurd (true≢false (sym all.0 ∙ ap touched (same_id-same (id_of d) id e) ∙ apart_from))

  by_test : (b : Bool) → is_lt (id_cmp (id_of d) id) ≡ b → IsBelow id (upper_docs id ds) → IsBelow id (cond b (upper_docs id ds) (d ∷ ds))
  by_test true e rest = rest
  by_test false e rest = and_from _ _ (ap is_lt (over e)) (below-trans id (id_of d) ds (over e) (head-below d ds asc))

joined : (xs : List Tree) (d : Tree) (rest : List Tree) → ascending xs ≡ true → AllByRecursion (λ x. id_cmp (id_of x) (id_of d) ≡ Less) xs → ascending (d ∷ rest) ≡ true → ascending (xs ++ d ∷ rest) ≡ true
joined [] d rest asc less h = h
joined (x ∷ xs) d rest asc less h =
    and_from _ _ (below-append (id_of x) xs (d ∷ rest) (head-below x xs asc) (and_from _ _ (ap is_lt less.0) (below-trans (id_of x) (id_of d) rest less.0 (head-below d rest h))))
    (joined xs d rest (tail-ascends x xs asc) less.1 h)

below-merged : (touched : List ℕ → Bool) (k : List ℕ) (ds ps : List Tree) → IsBelow k ds → IsBelow k ps → IsBelow k (merged_docs touched ds ps)
below-merged touched k [] ps g h = h
below-merged touched k (d ∷ ds) ps g h =
    let here = below-merged touched k ds ps (below-tail k d ds g) h in
    let there = below-merged touched k ds (upper_docs (id_of d) ps) (below-tail k d ds g) (below-upper k (id_of d) ps h) in
    elim (touched (id_of d)) as (λ b. IsBelow k (cond b (merged_docs touched ds ps) (lower_docs (id_of d) ps ++ d ∷ merged_docs touched ds (upper_docs (id_of d) ps)))) [
      | true ↦ here
      | false ↦ below-append k (lower_docs (id_of d) ps) (d ∷ merged_docs touched ds (upper_docs (id_of d) ps)) (below-lower k (id_of d) ps h) (and_from _ _ (ap is_lt (below-head k d ds g)) there)
    ]

ascending-merged : (touched : List ℕ → Bool) (ds ps : List Tree) → AreTouched touched ps → ascending ds ≡ true → ascending ps ≡ true → ascending (merged_docs touched ds ps) ≡ true
ascending-merged touched [] ps all g h = h
ascending-merged touched (d ∷ ds) ps all g h =
    by_test (touched (id_of d)) refl (ascending-merged touched ds ps all (tail-ascends d ds g) h)
    (ascending-merged touched ds high (all-upper _ (id_of d) ps all) (tail-ascends d ds g) (ascending-upper (id_of d) ps h)) where
      high : List Tree
      high = upper_docs (id_of d) ps

      by_test : (b : Bool) → touched (id_of d) ≡ b → ascending (merged_docs touched ds ps) ≡ true → ascending (merged_docs touched ds high) ≡ true
          → ascending (cond b (merged_docs touched ds ps) (lower_docs (id_of d) ps ++ d ∷ merged_docs touched ds high)) ≡ true
      by_test true e here there = here
      by_test false e here there =
          joined (lower_docs (id_of d) ps) d (merged_docs touched ds high) (ascending-lower (id_of d) ps h) (lower-less (id_of d) ps)
          (and_from _ _ (below-merged touched (id_of d) ds high (head-below d ds g) (upper-above touched (id_of d) ps e all h)) there)

-- ---- the documents that have each of some keys
touched_put : (w : Working) → AreTouched (contains id_cmp w.touched) (documents w.put)
touched_put w = each (documents w.put) (members (documents w.put) (ascending-documents w.put)) where
  each : (ds : List Tree) → AllByRecursion (λ d. standing (id_of d) (documents w.put) ≡ Some d) ds → AreTouched (contains id_cmp w.touched) ds
  each [] h = tt
  each (d ∷ ds) h = (w.noted (id_of d) (ap is_some h.0), each ds h.1)

kept_side : (p : Tree → Bool) (b : Bool) (one other : Option Tree) → cond b (kept_if p one) (kept_if p other) ≡ kept_if p (cond b one other)
kept_side p true one other = refl
kept_side p false one other = refl

pub merged_working : (w : Working) (ks : List Key) → merged_docs (contains id_cmp w.touched) (selected ks (base w)) (selected ks (documents w.put)) ≡ selected ks (working w)
merged_working w ks =
    let t : List ℕ → Bool = contains id_cmp w.touched in
    let store : ascending (base w) ≡ true = ascending-documents (store_of w.store).shelf in
    let put : ascending (documents w.put) ≡ true = ascending-documents w.put in
    let now : ascending (working w) ≡ true = ascending-after_changes (base w) (worked (base w) (documents w.put) w.touched.keys) store in
    let all : AreTouched t (selected ks (documents w.put)) = all-filter _ (has_all ks) (documents w.put) (touched_put w) in
    same_docs (merged_docs t (selected ks (base w)) (selected ks (documents w.put))) (selected ks (working w))
    (ascending-merged t (selected ks (base w)) (selected ks (documents w.put)) all (ascending-filter (has_all ks) (base w) store) (ascending-filter (has_all ks) (documents w.put) put))
    (ascending-filter (has_all ks) (working w) now)
    (λ q. standing-merged t q (selected ks (base w)) (selected ks (documents w.put)) all
    ∙ ap (λ o. cond (t q) o (standing q (selected ks (base w)))) (standing-filter (has_all ks) q (documents w.put) put)
    ∙ ap (λ o. cond (t q) (kept_if (has_all ks) (standing q (documents w.put))) o) (standing-filter (has_all ks) q (base w) store)
    ∙ kept_side (has_all ks) (t q) (standing q (documents w.put)) (standing q (base w))
    ∙ ap (kept_if (has_all ks)) (sym (standing-working w q)) ∙ sym (standing-filter (has_all ks) q (working w) now))
