-- Where a binary search ends among documents, and what stands there after one is put or taken out.
use Rattle.std.proofs.Common.{◌≡◌, ◌∙◌, sym, ap, refl, subst, ℕ, zero, suc, ◌≤◌, ◌<◌, List, [], ◌∷◌, length, get_or, set, map, true, false, not, cond, Result, Ok, Err, Ordering, Less, Equal, Greater, arith, ⊎_elim}
use Rattle.std.specs.Prelude.{insert, remove}
use Rattle.std.specs.List.{AllByRecursion}
use Rattle.std.specs.List.Sorted.{IsSearchInRange, IsBinarySearchResult}
use Rattle.std.specs.Ordering.{is_eq, is_lt, ordering_index}
use Rattle.std.specs.FinMap.Entries.{by_order, below_all}
use Rattle.std.proofs.lemmas.Cmp.{nat_list_cmp_total, tied_itself}
use Rattle.std.proofs.lemmas.List.{length-map}
use Rattle.std.proofs.lemmas.Map.Lookups.{exact_bytes}
use Rattle.cs_value.specs.Tree.{Tree}
use Rattle.cs_view.specs.Dataset.{id_cmp, same_id, keyed, ascending, with_doc, without}
use Rattle.cs_view.specs.Document.{id_of}
use Rattle.cs_view.proofs.Booleans.{and-left, and-right}
use Rattle.cs_view.proofs.Datasets.{is_lt-Less, id_cmp-flipped}
use Rattle.cs_hits.specs.Held.{IsPlaceOf, IsPut, IsTaken}

differs : (k : List ℕ) (d : Tree) (o : Ordering) → id_cmp k (id_of d) ≡ o → is_eq o ≡ false → not (same_id k (id_of d)) ≡ true
differs k d o h apart = ap not (ap is_eq h ∙ apart)

module _ {T : Type 0} (doc : T → Tree) where
  -- each later document is above
  below_at : (k : List ℕ) (ds : List T) (j : ℕ) (x : T) → below_all id_cmp k (keyed (map doc ds)) ≡ true → j < length ds → id_cmp k (id_of (doc (get_or ds j x))) ≡ Less
  below_at k [] j x h l = absurd (omega arith)
  below_at k (d ∷ ds) zero x h l = is_lt-Less _ (and-left _ _ h)
  below_at k (d ∷ ds) (suc j) x h l = below_at k ds j x (and-right (is_lt (id_cmp k (id_of (doc d)))) _ h) (omega arith)

  -- the comparisons with an id rise along the ids
  rank_rises : (a b k : List ℕ) → id_cmp a b ≡ Less → ordering_index (id_cmp a k) ≤ ordering_index (id_cmp b k)
  rank_rises a b k h =
      elim (id_cmp a k) as (λ o. id_cmp a k ≡ o → ordering_index o ≤ ordering_index (id_cmp b k)) [
        | Less ↦ λ e. omega arith
        | Equal ↦ λ e. let above : id_cmp b k ≡ Greater = subst (λ x. id_cmp b x ≡ Greater) (exact_bytes a k e) (id_cmp-flipped a b Less h) in rw above (omega arith)
        | Greater ↦ λ e. let above : id_cmp b k ≡ Greater = id_cmp-flipped k b Less (nat_list_cmp_total.trans k a b (id_cmp-flipped a k Greater e) h) in rw above (omega arith)
      ] refl

  rises : (k : List ℕ) (ds : List T) → ascending (map doc ds) ≡ true → (i j : ℕ) (x : T) → i ≤ j → j < length ds → ordering_index (id_cmp (id_of (doc (get_or ds i x))) k) ≤ ordering_index (id_cmp (id_of (doc (get_or ds j x))) k)
  rises k [] h i j x le l = absurd (omega arith)
  rises k (d ∷ ds) h zero zero x le l = omega arith
  rises k (d ∷ ds) h zero (suc j) x le l = rank_rises (id_of (doc d)) (id_of (doc (get_or ds j x))) k (below_at (id_of (doc d)) ds j x (and-left _ _ h) (omega arith))
  rises k (d ∷ ds) h (suc i) zero x le l = absurd (omega arith)
  rises k (d ∷ ds) h (suc i) (suc j) x le l = rises k ds (and-right (below_all id_cmp (id_of (doc d)) (keyed (map doc ds))) _ h) i j x (omega arith) (omega arith)

  -- the first document is below one that has the id of a later one
  first_below : (k : List ℕ) (d : T) (ds : List T) (i : ℕ) (x : T) → ascending (map doc (d ∷ ds)) ≡ true → i < length ds → id_of (doc (get_or ds i x)) ≡ k → id_cmp k (id_of (doc d)) ≡ Greater
  first_below k d ds i x h l is = id_cmp-flipped (id_of (doc d)) k Less (subst (λ y. id_cmp (id_of (doc d)) y ≡ Less) is (below_at (id_of (doc d)) ds i x (and-left _ _ h) l))

  later : (d : T) (ds : List T) → ascending (map doc (d ∷ ds)) ≡ true → ascending (map doc ds) ≡ true
  later d ds h = and-right (below_all id_cmp (id_of (doc d)) (keyed (map doc ds))) _ h

  -- ---- a document of the id stands at the place
  held-with : (t : Tree) (ds : List T) (i : ℕ) (x : T) → ascending (map doc ds) ≡ true → i < length ds → id_of (doc (get_or ds i x)) ≡ id_of t → with_doc t (map doc ds) ≡ set (map doc ds) i t
  held-with t [] i x h l is = absurd (omega arith)
  held-with t (d ∷ ds) zero x h l is = ap (λ o. by_order o (t ∷ doc d ∷ map doc ds) (t ∷ map doc ds) (doc d ∷ with_doc t (map doc ds))) (ap (id_cmp (id_of t)) is ∙ tied_itself nat_list_cmp_total (id_of t))
  held-with t (d ∷ ds) (suc i) x h l is =
      ap (λ o. by_order o (t ∷ doc d ∷ map doc ds) (t ∷ map doc ds) (doc d ∷ with_doc t (map doc ds))) (first_below (id_of t) d ds i x h (omega arith) is)
      ∙ ap (λ ts. doc d ∷ ts) (held-with t ds i x (later d ds h) (omega arith) is)

  without-above : (k : List ℕ) (ts : List Tree) → below_all id_cmp k (keyed ts) ≡ true → without k ts ≡ ts
  without-above k [] h = refl
  without-above k (t ∷ ts) h =
      let rest = without-above k ts (and-right (is_lt (id_cmp k (id_of t))) _ h) in
      ap (λ b. cond b (t ∷ without k ts) (without k ts)) (differs k t Less (is_lt-Less _ (and-left _ _ h)) refl) ∙ ap (λ l. t ∷ l) rest

  held-without : (k : List ℕ) (ds : List T) (i : ℕ) (x : T) → ascending (map doc ds) ≡ true → i < length ds → id_of (doc (get_or ds i x)) ≡ k → without k (map doc ds) ≡ remove (map doc ds) i
  held-without k [] i x h l is = absurd (omega arith)
  held-without k (d ∷ ds) zero x h l is =
      ap (λ b. cond b (doc d ∷ without k (map doc ds)) (without k (map doc ds))) (ap (λ (y : List ℕ). not (same_id k y)) is ∙ ap (λ o. not (is_eq o)) (tied_itself nat_list_cmp_total k))
      ∙ without-above k (map doc ds) (subst (λ y. below_all id_cmp y (keyed (map doc ds)) ≡ true) is (and-left _ _ h))
  held-without k (d ∷ ds) (suc i) x h l is =
      ap (λ b. cond b (doc d ∷ without k (map doc ds)) (without k (map doc ds))) (differs k (doc d) Greater (first_below k d ds i x h (omega arith) is) refl)
      ∙ ap (λ ts. doc d ∷ ts) (held-without k ds i x (later d ds h) (omega arith) is)

  -- ---- none of the id stands, and the place is behind those below it
  abbrev AllBelow : List ℕ → List T → ℕ → Type 0
  AllBelow k ds i = (j : ℕ) (x : T) → 0 ≤ j → j < i → id_cmp (id_of (doc (get_or ds j x))) k ≡ Less

  abbrev AllAbove : List ℕ → List T → ℕ → Type 0
  AllAbove k ds i = (j : ℕ) (x : T) → i ≤ j → j < length ds → id_cmp (id_of (doc (get_or ds j x))) k ≡ Greater

  gap-with : (t : Tree) (ds : List T) (i : ℕ) → AllBelow (id_of t) ds i → AllAbove (id_of t) ds i → i ≤ length ds → with_doc t (map doc ds) ≡ insert (map doc ds) i t
  gap-with t [] zero lo hi w = refl
  gap-with t [] (suc i) lo hi w = absurd (omega arith)
  gap-with t (d ∷ ds) zero lo hi w = ap (λ o. by_order o (t ∷ doc d ∷ map doc ds) (t ∷ map doc ds) (doc d ∷ with_doc t (map doc ds))) (id_cmp-flipped (id_of (doc d)) (id_of t) Greater (hi 0 d (omega arith) (omega arith)))
  gap-with t (d ∷ ds) (suc i) lo hi w =
      ap (λ o. by_order o (t ∷ doc d ∷ map doc ds) (t ∷ map doc ds) (doc d ∷ with_doc t (map doc ds))) (id_cmp-flipped (id_of (doc d)) (id_of t) Less (lo 0 d (omega arith) (omega arith)))
      ∙ ap (λ ts. doc d ∷ ts) (gap-with t ds i (λ j x a b. lo (suc j) x (omega arith) (omega arith)) (λ j x a b. hi (suc j) x (omega arith) (omega arith)) (omega arith))

  gap-without : (k : List ℕ) (ds : List T) (i : ℕ) → AllBelow k ds i → AllAbove k ds i → i ≤ length ds → without k (map doc ds) ≡ map doc ds
  gap-without k [] i lo hi w = refl
  gap-without k (d ∷ ds) zero lo hi w =
      ap (λ b. cond b (doc d ∷ without k (map doc ds)) (without k (map doc ds))) (differs k (doc d) Less (id_cmp-flipped (id_of (doc d)) k Greater (hi 0 d (omega arith) (omega arith))) refl)
      ∙ ap (λ ts. doc d ∷ ts) (gap-without k ds zero (λ j x a b. absurd (omega arith)) (λ j x a b. hi (suc j) x (omega arith) (omega arith)) (omega arith))
  gap-without k (d ∷ ds) (suc i) lo hi w =
      ap (λ b. cond b (doc d ∷ without k (map doc ds)) (without k (map doc ds))) (differs k (doc d) Greater (id_cmp-flipped (id_of (doc d)) k Less (lo 0 d (omega arith) (omega arith))) refl)
      ∙ ap (λ ts. doc d ∷ ts) (gap-without k ds i (λ j x a b. lo (suc j) x (omega arith) (omega arith)) (λ j x a b. hi (suc j) x (omega arith) (omega arith)) (omega arith))

  -- what a binary search by the ids answers
  pub sought : (k : List ℕ) (ds : List T) → ascending (map doc ds) ≡ true → (r : Result ℕ ℕ) → IsSearchInRange r (length ds) → IsBinarySearchResult (λ (d : T). id_cmp (id_of (doc d)) k) ds r → IsPlaceOf k (map doc ds) r
  sought k [] h (Ok i) l e = absurd (omega arith)
  sought k (d ∷ ds) h (Ok i) l e =
      let is : id_of (doc (get_or (d ∷ ds) i d)) ≡ k = exact_bytes _ k (e d) in
      record {
        within = omega (arith, length-map (d ∷ ds) doc);
        put = λ t own. held-with t (d ∷ ds) i d h l (is ∙ sym own);
        left = held-without k (d ∷ ds) i d h l is;
      }
  sought k ds h (Err i) l e =
      let p = e (rises k ds h) in
      record {
        within = omega (arith, length-map ds doc);
        put = λ t own. gap-with t ds i (λ j x a b. subst (λ y. id_cmp (id_of (doc (get_or ds j x))) y ≡ Less) (sym own) (p.0 j x a b)) (λ j x a b. subst (λ y. id_cmp (id_of (doc (get_or ds j x))) y ≡ Greater) (sym own) (p.1 j x a b)) l;
        left = gap-without k ds i p.0 p.1 l;
      }

  -- ---- the documents of a list behind a change of it
  pub set_docs : (ds : List T) (i : ℕ) (d : T) → map doc (set ds i d) ≡ set (map doc ds) i (doc d)
  set_docs [] i d = refl
  set_docs (e ∷ es) zero d = refl
  set_docs (e ∷ es) (suc i) d = ap (λ ts. doc e ∷ ts) (set_docs es i d)

  pub insert_docs : (ds : List T) (i : ℕ) (d : T) → map doc (insert ds i d) ≡ insert (map doc ds) i (doc d)
  insert_docs ds zero d = refl
  insert_docs [] (suc i) d = refl
  insert_docs (e ∷ es) (suc i) d = ap (λ ts. doc e ∷ ts) (insert_docs es i d)

  pub remove_docs : (ds : List T) (i : ℕ) → map doc (remove ds i) ≡ remove (map doc ds) i
  remove_docs [] zero = refl
  remove_docs [] (suc i) = refl
  remove_docs (e ∷ es) zero = refl
  remove_docs (e ∷ es) (suc i) = ap (λ ts. doc e ∷ ts) (remove_docs es i)

-- ---- what holds of each of a list still does behind a change of it
module _ {T : Type 0} (Is : T → Type 0) where
  pub set_each : (xs : List T) (i : ℕ) (x : T) → Is x → AllByRecursion Is xs → AllByRecursion Is (set xs i x)
  set_each [] i x h all = all
  set_each (y ∷ ys) zero x h all = (h, all.1)
  set_each (y ∷ ys) (suc i) x h all = (all.0, set_each ys i x h all.1)

  pub insert_each : (xs : List T) (i : ℕ) (x : T) → Is x → AllByRecursion Is xs → AllByRecursion Is (insert xs i x)
  insert_each xs zero x h all = (h, all)
  insert_each [] (suc i) x h all = (h, all)
  insert_each (y ∷ ys) (suc i) x h all = (all.0, insert_each ys i x h all.1)

  pub remove_each : (xs : List T) (i : ℕ) → AllByRecursion Is xs → AllByRecursion Is (remove xs i)
  remove_each [] zero all = all
  remove_each [] (suc i) all = all
  remove_each (y ∷ ys) zero all = all.1
  remove_each (y ∷ ys) (suc i) all = (all.0, remove_each ys i all.1)

  pub put_each : (one : T) (old new : List T) → IsPut one old new → Is one → AllByRecursion Is old → AllByRecursion Is new
  put_each one old new put h all =
      ⊎_elim (λ (e : new ≡ set old put.0 one). subst (AllByRecursion Is) (sym e) (set_each old put.0 one h all))
      (λ (e : new ≡ insert old put.0 one). subst (AllByRecursion Is) (sym e) (insert_each old put.0 one h all)) put.1

  pub taken_each : (old new : List T) → IsTaken old new → AllByRecursion Is old → AllByRecursion Is new
  taken_each old new taken all =
      ⊎_elim (λ (e : new ≡ remove old taken.0). subst (AllByRecursion Is) (sym e) (remove_each old taken.0 all))
      (λ (e : new ≡ old). subst (AllByRecursion Is) (sym e) all) taken.1
