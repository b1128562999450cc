-- The documents behind a windowed query: hits, or those near its window, and what they settle.
use Rattle.std.proofs.Common.{◌≡◌, List, [], ◌∷◌, length, map, Bool, true, false, cond, ◌&&◌, refl, sym, ap, ◌∙◌, subst, Some}
use Rattle.std.specs.Prelude.{filter}
use Rattle.cs_value.specs.Tree.{Tree, Pairs}
use Rattle.cs_syntax.specs.Expression.{Expression}
use Rattle.cs_view.specs.Changes.{Edit, are_changes, LeadTo, before_changes, after_changes, changes_where}
use Rattle.cs_view.specs.Dataset.{ascending}
use Rattle.cs_view.specs.Laws.{ChangesLeadBackAndOn, FilterFollowsChanges}
use Rattle.cs_view.specs.View.{document_of}
use Rattle.cs_view.proofs.Changed.{ascending-before_changes}
use Rattle.cs_view.proofs.Datasets.{ascending-filter}
use Rattle.cs_meaning.specs.Hits.{hits, is_hit}
use Rattle.cs_meaning.proofs.Sound.{filter-within}
use Rattle.cs_window.specs.Laws.{NearerIsWithin}
use Rattle.cs_window.specs.Window.{is_near, keys_at, IsBound}
use Rattle.cs_hits.specs.Behind.{AreBehind, AreEnoughBehind, Follows, held_docs, is_held, KeepsKind}
use Rattle.cs_hits.specs.Near.{AreNearest, IsWithin, bound_of, is_near_hit, near_docs}
use Rattle.cs_hits.specs.declared.behind.Behind.{Behind}
use Rattle.cs_hits.specs.declared.behind.Behind.TheVariants.{All, Window}
use Rattle.cs_hits.specs.declared.near.Near.{Near}
use Rattle.cs_hits.proofs.Nearing.{Settles, bounds_both, enough_near}

-- what passes two tests
filter_both : (p q : Tree → Bool) (ds : List Tree) → filter (λ d. p d && q d) ds ≡ filter q (filter p ds)
filter_both p q [] = refl
filter_both p q (d ∷ ds) = either (p d) (filter_both p q ds)
  where
    either : (b : Bool) → filter (λ d. p d && q d) ds ≡ filter q (filter p ds)
        → cond (b && q d) (d ∷ filter (λ d. p d && q d) ds) (filter (λ d. p d && q d) ds) ≡ filter q (cond b (d ∷ filter p ds) (filter p ds))
    either true h = inner (q d) h
      where
        inner : (c : Bool) → filter (λ d. p d && q d) ds ≡ filter q (filter p ds)
            → cond c (d ∷ filter (λ d. p d && q d) ds) (filter (λ d. p d && q d) ds) ≡ cond c (d ∷ filter q (filter p ds)) (filter q (filter p ds))
        inner true h = ap (λ (us : List Tree). d ∷ us) h
        inner false h = h
    either false h = h

module _ (e : Expression) (params : Pairs) where
  near_hits : (bound docs : List Tree) → filter (is_near_hit e params bound) docs ≡ filter (is_near e params bound) (hits e params docs)
  near_hits bound docs = filter_both (is_hit e params) (is_near e params bound) docs

  -- they are those near the window of hits
  near_of : (docs : List Tree) (n : Near) → AreBehind docs e params (Window n) → near_docs n ≡ filter (is_near e params (bound_of n)) (hits e params docs)
  near_of docs n are = are ∙ near_hits (bound_of n) docs

  -- found among hits
  pub found_near : (docs : List Tree) (ds : List Tree) (n : Near) → ds ≡ hits e params docs → AreNearest e params ds n → AreBehind docs e params (Window n) × AreEnoughBehind docs e params (Window n)
  found_near docs ds n are m =
      (m.near ∙ (ap (filter (is_near e params (bound_of n))) are ∙ sym (near_hits (bound_of n) docs)), subst (IsBound e params (bound_of n)) are m.bound)

  -- they settle what documents up to a bound settle
  pub behind_settles : {X : Type 0} (f : List Tree → X) → Settles e params f → (docs : List Tree) (b : Behind) → AreBehind docs e params b → AreEnoughBehind docs e params b → f (held_docs b) ≡ f (hits e params docs)
  behind_settles f settles docs (All v) are enough = ap f are
  behind_settles f settles docs (Window n) are enough =
      let p : Tree → Bool = is_near e params (bound_of n) in
      let h : List Tree = hits e params docs in
      ap f (near_of docs n are) ∙ sym (settles (bound_of n) h (filter p h) enough (filter-within p p (λ d t. t) h))

  -- they are enough where their number is
  pub filled : (docs : List Tree) (n : Near) → AreBehind docs e params (Window n) → IsWithin e (length n.docs.items) → AreEnoughBehind docs e params (Window n)
  filled docs n are w = enough_near e params n (hits e params docs) (near_of docs n are) w

  -- a nearer bound among them
  pub narrowed_behind : NearerIsWithin → (docs : List Tree) (b : Behind) (n : Near) → AreBehind docs e params b → AreNearest e params (held_docs b) n
      → AreBehind docs e params (Window n) × AreEnoughBehind docs e params (Window n)
  narrowed_behind nearer docs (All v) n are m = found_near docs (map document_of v.items) n are m
  narrowed_behind nearer docs (Window k) n are m =
      let h : List Tree = hits e params docs in
      let near = near_of docs k are in
      let ds : List Tree = filter (is_near e params (bound_of k)) h in
      let at : keys_at e params ds m.place ≡ Some (bound_of n) = ap (λ (us : List Tree). keys_at e params us m.place) (sym near) ∙ m.at in
      let within : filter (is_near e params (bound_of n)) ds ≡ filter (is_near e params (bound_of n)) h
      = nearer e params (bound_of k) h m.place (bound_of n) at in
      let bound : IsBound e params (bound_of n) ds = subst (IsBound e params (bound_of n)) near m.bound in
      (m.near ∙ (ap (filter (is_near e params (bound_of n))) near ∙ (within ∙ sym (near_hits (bound_of n) docs))), bounds_both e params (bound_of n) ds h bound within)

  -- datasets with the same hits
  pub are_by : (d1 d2 : List Tree) (b : Behind) → hits e params d1 ≡ hits e params d2 → AreBehind d1 e params b → AreBehind d2 e params b
  are_by d1 d2 (All v) same are = are ∙ same
  are_by d1 d2 (Window n) same are = near_of d1 n are ∙ (ap (filter (is_near e params (bound_of n))) same ∙ sym (near_hits (bound_of n) d2))

  pub enough_by : (d1 d2 : List Tree) (b : Behind) → hits e params d1 ≡ hits e params d2 → AreEnoughBehind d1 e params b → AreEnoughBehind d2 e params b
  enough_by d1 d2 (All v) same enough = tt
  enough_by d1 d2 (Window n) same enough = subst (IsBound e params (bound_of n)) same enough

  -- the same test before and after
  pub same_test : (a b : Behind) → KeepsKind a b → is_held e params b ≡ is_held e params a
  same_test (All v) (All w) kind = refl
  same_test (All v) (Window m) kind = absurd kind
  same_test (Window n) (All w) kind = absurd kind
  same_test (Window n) (Window m) kind = ap (is_near_hit e params) kind

  pub behind_ascend : (docs : List Tree) (cs : List Edit) → ascending docs ≡ true → (b : Behind) → AreBehind (before_changes docs cs) e params b → ascending (held_docs b) ≡ true
  behind_ascend docs cs h b are = ap ascending are ∙ ascending-filter (is_held e params b) (before_changes docs cs) (ascending-before_changes docs cs h)

  -- behind the changes they are those of the dataset after
  pub behind_after : ChangesLeadBackAndOn → FilterFollowsChanges → (docs : List Tree) (cs : List Edit) → ascending docs ≡ true → are_changes cs ≡ true → LeadTo docs cs
      → (a b : Behind) → AreBehind (before_changes docs cs) e params a → Follows cs e params a b → AreBehind docs e params b
  behind_after back follows docs cs h changes leads a b are f =
      let p = is_held e params a in
      f.docs ∙ (ap (λ (ds : List Tree). after_changes ds (changes_where p cs)) are
      ∙ (sym (follows p (before_changes docs cs) cs (ascending-before_changes docs cs h) changes)
      ∙ (ap (filter p) (back docs cs h changes leads).2
      ∙ ap (λ (q : Tree → Bool). filter q docs) (sym (same_test a b f.kind)))))

  -- where the same documents are held, the hits are the same up to the bound
  module _ (d1 d2 : List Tree) where
    pub enough_still : (a b : Behind) → KeepsKind a b → AreBehind d1 e params a → AreBehind d2 e params b → held_docs b ≡ held_docs a → AreEnoughBehind d1 e params a → AreEnoughBehind d2 e params b
    enough_still (All v) (All w) kind one other same enough = tt
    enough_still (All v) (Window m) kind one other same enough = absurd kind
    enough_still (Window n) (All w) kind one other same enough = absurd kind
    enough_still (Window n) (Window m) kind one other same enough =
        let up : filter (is_near e params (bound_of n)) (hits e params d1) ≡ filter (is_near e params (bound_of n)) (hits e params d2)
        = sym (near_of d1 n one) ∙ (sym same ∙ (near_of d2 m other ∙ ap (λ (x : List Tree). filter (is_near e params x) (hits e params d2)) kind)) in
        subst (λ (x : List Tree). IsBound e params x (hits e params d2)) (sym kind) (bounds_both e params (bound_of n) (hits e params d1) (hits e params d2) enough up)

    -- and so is what they settle
    pub stay_settles : {X : Type 0} (f : List Tree → X) → Settles e params f → (a b : Behind) → KeepsKind a b → AreBehind d1 e params a → AreBehind d2 e params b → held_docs b ≡ held_docs a → AreEnoughBehind d1 e params a
        → f (hits e params d1) ≡ f (hits e params d2)
    stay_settles f settles a b kind one other same enough =
        sym (behind_settles f settles d1 a one enough) ∙ (ap f (sym same) ∙ behind_settles f settles d2 b other (enough_still a b kind one other same enough))

-- the kind stays over two changes
pub kind-same : (a : Behind) → KeepsKind a a
kind-same (All v) = tt
kind-same (Window n) = refl

pub kind-on : (a b c : Behind) → KeepsKind a b → KeepsKind b c → KeepsKind a c
kind-on (All v) (All w) (All x) g h = tt
kind-on (All v) (All w) (Window n) g h = absurd h
kind-on (All v) (Window n) c g h = absurd g
kind-on (Window n) (All w) c g h = absurd g
kind-on (Window n) (Window m) (All x) g h = absurd h
kind-on (Window n) (Window m) (Window k) g h = h ∙ g
