-- Documents that are put at places one after the other, in the order of their ids.
use Rattle.std.proofs.Common.{◌≡◌, ℕ, List, [], ◌∷◌, ◌++◌, Option, Some, None, Bool, true, false, cond, Less, refl, sym, ap, ◌∙◌, true≢false}
use Rattle.std.proofs.lemmas.Map.{update_all_push}
use Rattle.std.specs.BTreeMap.{get, IsFromIterResult}
use Rattle.std.specs.FinMap.Entries.{below_all}
use Rattle.std.specs.Map.{update_all}
use Rattle.std.specs.Ordering.{is_lt}
use Rattle.cs_value.specs.Tree.{Tree}
use Rattle.cs_view.specs.Document.{id_of}
use Rattle.cs_view.specs.Dataset.{id_cmp, same_id, keyed, standing, ascending, with_doc}
use Rattle.cs_view.proofs.Booleans.{and-left, and-right}
use Rattle.cs_view.proofs.Datasets.{same_id-same, same_id-sym, is_lt-Less, id_cmp-flipped, lower-differs, standing-with_doc, same_docs}
use Rattle.cs_shelf.specs.Gathering.{Places, listed_at, IsPutNext, AreListed}
use Rattle.cs_shelf.specs.Places.{Store, Order, tree_at, found, IsSound, IsEntered, AreLow, trees_at}
use Rattle.cs_shelf.proofs.Standing.{none_or_some, at_of, ascending_of}
use Rattle.cs_shelf.proofs.Writing.{found_at, sound_at, entered_at, low_at, own_id, no_id_at, no_document}

-- ---- a document whose id is above those before it goes last
below_there : (k : List ℕ) (done : List Tree) (d : Tree) (more : List Tree) → below_all id_cmp k (keyed (done ++ d ∷ more)) ≡ true → is_lt (id_cmp k (id_of d)) ≡ true
below_there k [] d more h = and-left _ _ h
below_there k (e ∷ done) d more h = below_there k done d more (and-right (is_lt (id_cmp k (id_of e))) _ h)

fresh : (done : List Tree) (d : Tree) (more : List Tree) → ascending (done ++ d ∷ more) ≡ true → standing (id_of d) done ≡ None
fresh [] d more h = refl
fresh (e ∷ done) d more h =
    ap (λ b. cond b (Some e) (standing (id_of d) done)) (same_id-sym (id_of d) (id_of e) ∙ lower-differs (id_of e) (id_of d) (below_there (id_of e) done d more (and-left _ _ h)))
    ∙ fresh done d more (and-right (below_all id_cmp (id_of e) (keyed (done ++ d ∷ more))) _ h)

pub goes_last : (done : List Tree) (d : Tree) (more : List Tree) → ascending (done ++ d ∷ more) ≡ true → with_doc d done ≡ done ++ d ∷ []
goes_last [] d more h = refl
goes_last (e ∷ done) d more h =
    rw (id_cmp-flipped (id_of e) (id_of d) Less (is_lt-Less (id_cmp (id_of e) (id_of d)) (below_there (id_of e) done d more (and-left _ _ h))))
    (ap (λ r. e ∷ r) (goes_last done d more (and-right (below_all id_cmp (id_of e) (keyed (done ++ d ∷ more))) _ h)))

-- ---- an id that is listed last
listed_last : (es : Places) (i : List ℕ) (p : ℕ) → listed_at es i ≡ None → (x : List ℕ) → listed_at (es ++ (i, p) ∷ []) x ≡ cond (same_id i x) (Some p) (listed_at es x)
listed_last [] i p h x = ap (λ b. cond b (Some p) None) (same_id-sym x i)
listed_last (e ∷ es) i p h x = by_test (listed_last es i p) (same_id i e.0) refl h where
  swapped : same_id i e.0 ≡ false → (a b : Bool) → same_id x e.0 ≡ a → same_id i x ≡ b → (o : Option ℕ) → cond a (Some e.1) (cond b (Some p) o) ≡ cond b (Some p) (cond a (Some e.1) o)
  swapped f true true g k o = absurd (true≢false (sym k ∙ ap (same_id i) (same_id-same x e.0 g) ∙ f))
  swapped f true false g k o = refl
  swapped f false true g k o = refl
  swapped f false false g k o = refl

  by_test : (listed_at es i ≡ None → (y : List ℕ) → listed_at (es ++ (i, p) ∷ []) y ≡ cond (same_id i y) (Some p) (listed_at es y)) → (b : Bool) → same_id i e.0 ≡ b → cond b (Some e.1) (listed_at es i) ≡ None
      → cond (same_id x e.0) (Some e.1) (listed_at (es ++ (i, p) ∷ []) x) ≡ cond (same_id i x) (Some p) (cond (same_id x e.0) (Some e.1) (listed_at es x))
  by_test ih true f g = absurd (none_or_some e.1 (sym g))
  by_test ih false f g =
      ap (cond (same_id x e.0) (Some e.1)) (ih g x) ∙ swapped f (same_id x e.0) (same_id i x) refl refl (listed_at es x)

-- ---- the list as documents come
nothing_at : (s : Store) → s.slots ≡ [] → (p : ℕ) → tree_at s p ≡ None
nothing_at s h p = rw h refl

pub none_listed : (s : Store) (es : Places) → s.slots ≡ [] → es ≡ [] → AreListed s es []
none_listed s es h is =
    let nowhere : (x : List ℕ) → listed_at es x ≡ None = λ x. ap (λ l. listed_at l x) is in
    record {
      sound = λ x p e. absurd (none_or_some p (sym (nowhere x) ∙ e));
      entered = λ p t e. absurd (none_or_some t (sym (nothing_at s h p) ∙ e));
      low = λ x p e. absurd (none_or_some p (sym (nowhere x) ∙ e));
      once = λ x. rw is refl;
      these = λ x. ap (found s) (nowhere x);
    }

pub one_more : (s t : Store) (es fs : Places) (done : List Tree) (d : Tree) (more : List Tree) → ascending (done ++ d ∷ more) ≡ true → AreListed s es done → IsPutNext s t es fs d → AreListed t fs (done ++ d ∷ [])
one_more s t es fs done d more rises before next =
    let i : List ℕ = id_of d in
    let p : ℕ = next.place in
    let m : List ℕ → Option ℕ = listed_at es in
    let n : List ℕ → Option ℕ = listed_at fs in
    let unlisted : listed_at es i ≡ None = no_document s m i before.sound (before.these i ∙ fresh done d more rises) in
    let order : (x : List ℕ) → listed_at fs x ≡ cond (same_id i x) (Some p) (listed_at es x) = λ x. ap (λ l. listed_at l x) next.last ∙ listed_last es i p unlisted x in
    let apart : (x : List ℕ) → listed_at es x ≡ Some p → x ≡ i = no_id_at s m p i next.vacant before.sound in
    record {
      sound = sound_at s t m n i p (Some d) next.filled order apart (own_id d) before.sound;
      entered = entered_at s t m n i p (Some d) next.filled order apart (own_id d) (λ q e. absurd (none_or_some q (sym unlisted ∙ e))) before.entered;
      low = low_at m n i p (Some d) order next.low before.low;
      once = λ x.
          ap (λ l. update_all same_id (λ _. None) l x) next.last
          ∙ sym (update_all_push same_id (λ _. None) (listed_at es) es (i, p) x (sym (before.once x))) ∙ sym (order x);
      these = λ x.
          found_at s t m n i p (Some d) next.filled order apart x ∙ ap (cond (same_id i x) (Some d)) (before.these x)
          ∙ ap (λ b. cond b (Some d) (standing x done)) (same_id-sym i x) ∙ sym (standing-with_doc x d done)
          ∙ ap (standing x) (goes_last done d more rises);
    }

-- ---- the map of the list
module _ (s : Store) (es : Places) (docs : List Tree) (m : Order) (listed : AreListed s es docs) (made : IsFromIterResult id_cmp es m) where
  as_listed : (x : List ℕ) → get id_cmp m x ≡ listed_at es x
  as_listed x = made.0 x ∙ listed.once x

  pub sound_made : IsSound s m
  sound_made x p h = listed.sound x p (sym (as_listed x) ∙ h)

  pub entered_made : IsEntered s m
  entered_made p t h = as_listed (id_of t) ∙ listed.entered p t h

  pub low_made : AreLow m
  low_made x p h = listed.low x p (sym (as_listed x) ∙ h)

  pub trees_made : ascending docs ≡ true → trees_at s m.entries ≡ docs
  trees_made rises =
      same_docs (trees_at s m.entries) docs (ascending_of s m sound_made made.1) rises
      (λ x. at_of s m sound_made made.1 x ∙ ap (found s) (as_listed x) ∙ listed.these x)
