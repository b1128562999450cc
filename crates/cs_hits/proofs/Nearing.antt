-- The rows near the window of a query as rows are put and taken out, and what they settle.
use Rattle.std.proofs.Common.{◌≡◌, ◌≤◌, ◌+◌, ℕ, List, length, map, Bool, true, false, cond, refl, sym, ap, ◌∙◌, subst, Option, Some, None, option_map, arith, Vec, Global}
use Rattle.std.specs.Prelude.{filter, IfSome, OnOk, Result, Ok, Err}
use Rattle.std.proofs.lemmas.List.{length-map}
use Rattle.cs_value.specs.Tree.{Tree, Pairs}
use Rattle.cs_value.specs.View.{tree}
use Rattle.cs_value.specs.declared.val.Val.{Val}
use Rattle.cs_syntax.specs.Expression.{Expression}
use Rattle.cs_view.specs.Changes.{is_of_id}
use Rattle.cs_view.specs.Dataset.{same_id, standing, ascending, kept_if, placed, with_doc, without}
use Rattle.cs_view.specs.Document.{id_of}
use Rattle.cs_view.specs.View.{document_of}
use Rattle.cs_view.proofs.Datasets.{same_docs, same_id-refl, ascending-filter, ascending-placed, standing-filter, standing-placed}
use Rattle.cs_meaning.proofs.Sound.{filter-within}
use Rattle.cs_window.specs.Laws.{NearerIsWithin, PlaceBoundsWindow}
use Rattle.cs_window.specs.Window.{Window, window, is_near, keys_at, IsBound}
use Rattle.cs_hits.specs.Near.{AreNearest, IsWithin, bound_of, near_docs}
use Rattle.cs_hits.specs.Hits.{settling_of}
use Rattle.cs_hits.specs.declared.near.Near.{Near}

-- ---- a filter of documents of which one is put or taken out
of_id_still : (p : Tree → Bool) (id : List ℕ) (o : Option Tree) → is_of_id id o ≡ true → is_of_id id (kept_if p o) ≡ true
of_id_still p id None h = refl
of_id_still p id (Some d) h = elim (p d) as (λ b. is_of_id id (cond b (Some d) None) ≡ true) [ true ↦ h | false ↦ refl ]

kept_either : (p : Tree → Bool) (b : Bool) (o t : Option Tree) → kept_if p (cond b o t) ≡ cond b (kept_if p o) (kept_if p t)
kept_either p true o t = refl
kept_either p false o t = refl

filter_placed : (p : Tree → Bool) (id : List ℕ) (o : Option Tree) (docs : List Tree) → is_of_id id o ≡ true → ascending docs ≡ true
    → filter p (placed id o docs) ≡ placed id (kept_if p o) (filter p docs)
filter_placed p id o docs own h =
    let after : ascending (placed id o docs) ≡ true = ascending-placed id o docs h in
    let before : ascending (filter p docs) ≡ true = ascending-filter p docs h in
    same_docs (filter p (placed id o docs)) (placed id (kept_if p o) (filter p docs))
    (ascending-filter p (placed id o docs) after)
    (ascending-placed id (kept_if p o) (filter p docs) before)
    (λ q. standing-filter p q (placed id o docs) after
    ∙ ap (kept_if p) (standing-placed q id o docs own)
    ∙ kept_either p (same_id q id) o (standing q docs)
    ∙ sym (standing-placed q id (kept_if p o) (filter p docs) (of_id_still p id o own)
    ∙ ap (λ (t : Option Tree). cond (same_id q id) (kept_if p o) t) (standing-filter p q docs h)))

pub near_put : (e : Expression) (params : Pairs) (bound near after rows rows' : List Tree) (d : Tree) → ascending rows ≡ true
    → near ≡ filter (is_near e params bound) rows → rows' ≡ with_doc d rows
    → after ≡ placed (id_of d) (kept_if (is_near e params bound) (Some d)) near
    → after ≡ filter (is_near e params bound) rows'
near_put e params bound near after rows rows' d h is put placed_near =
    placed_near
    ∙ ap (placed (id_of d) (kept_if (is_near e params bound) (Some d))) is
    ∙ sym (filter_placed (is_near e params bound) (id_of d) (Some d) rows (same_id-refl (id_of d)) h)
    ∙ ap (filter (is_near e params bound)) (sym put)

pub near_left : (e : Expression) (params : Pairs) (bound near after rows rows' : List Tree) (id : List ℕ) → ascending rows ≡ true
    → near ≡ filter (is_near e params bound) rows → rows' ≡ without id rows → after ≡ without id near
    → after ≡ filter (is_near e params bound) rows'
near_left e params bound near after rows rows' id h is left left_near =
    left_near ∙ ap (without id) is
    ∙ sym (filter_placed (is_near e params bound) id None rows refl h)
    ∙ ap (filter (is_near e params bound)) (sym left)

pub near_ascend : (e : Expression) (params : Pairs) (bound near rows : List Tree) → near ≡ filter (is_near e params bound) rows
    → ascending rows ≡ true → ascending near ≡ true
near_ascend e params bound near rows is h = ap ascending is ∙ ascending-filter (is_near e params bound) rows h

-- ---- what settles the answer
pub nearest_near : (e : Expression) (params : Pairs) (docs : List Tree) (o : Option Near) → IfSome o (AreNearest e params docs)
    → IfSome o (λ n. near_docs n ≡ filter (is_near e params (bound_of n)) docs)
nearest_near e params docs None h = tt
nearest_near e params docs (Some n) h = h.near

pub nearest_enough : (e : Expression) (params : Pairs) (docs : List Tree) (o : Option Near) → IfSome o (AreNearest e params docs)
    → IfSome o (λ n. IsBound e params (bound_of n) docs)
nearest_enough e params docs None h = tt
nearest_enough e params docs (Some n) h = h.bound

module _ (e : Expression) (params : Pairs) where
  abbrev pub Nears : Option Near → List Tree → Type 0
  Nears o docs = IfSome o (λ n. near_docs n ≡ filter (is_near e params (bound_of n)) docs)

  abbrev pub Enough : Option Near → List Tree → Type 0
  Enough o docs = IfSome o (λ n. IsBound e params (bound_of n) docs)

  -- a bound is one of each list that has the same documents up to it
  pub bounds_both : (bound xs ys : List Tree) → IsBound e params bound xs → filter (is_near e params bound) xs ≡ filter (is_near e params bound) ys → IsBound e params bound ys
  bounds_both bound xs ys b same = record {
    within = b.within;
    is = b.is;
    enough = subst (λ (us : List Tree). b.within.many ≤ length us) same b.enough;
  }

  -- what two lists have in common that have the same documents up to a bound
  abbrev pub Settles : {X : Type 0} → (List Tree → X) → Type 0
  Settles f = (bound xs ys : List Tree) → IsBound e params bound xs → filter (is_near e params bound) xs ≡ filter (is_near e params bound) ys → f xs ≡ f ys

  pub settled_by : {X : Type 0} (f : List Tree → X) → Settles f → (o : Option Near) (docs : List Tree) → Nears o docs → Enough o docs
      → f (settling_of o docs) ≡ f docs
  settled_by f settles None docs near enough = refl
  settled_by f settles (Some n) docs near enough =
      let p : Tree → Bool = is_near e params (bound_of n) in
      ap f near ∙ sym (settles (bound_of n) docs (filter p docs) enough (filter-within p p (λ d h. h) docs))

  -- where what settles an answer stays, the documents are the same up to the bound
  same_near : (n n' : Near) (docs docs' : List Tree) → near_docs n ≡ filter (is_near e params (bound_of n)) docs → near_docs n' ≡ filter (is_near e params (bound_of n')) docs'
      → bound_of n' ≡ bound_of n → near_docs n' ≡ near_docs n → filter (is_near e params (bound_of n)) docs ≡ filter (is_near e params (bound_of n)) docs'
  same_near n n' docs docs' near near' bound same =
      sym near ∙ (sym same ∙ (near' ∙ ap (λ (x : List Tree). filter (is_near e params x) docs') bound))

  pub stays_by : {X : Type 0} (f : List Tree → X) → Settles f → (o o' : Option Near) (docs docs' : List Tree) → Nears o docs → Nears o' docs' → Enough o docs
      → option_map bound_of o' ≡ option_map bound_of o → settling_of o' docs' ≡ settling_of o docs → f docs' ≡ f docs
  stays_by f settles None None docs docs' near near' enough bound same = ap f same
  stays_by f settles None (Some n') docs docs' near near' enough bound same = cc
  stays_by f settles (Some n) None docs docs' near near' enough bound same = cc
  stays_by f settles (Some n) (Some n') docs docs' near near' enough bound same =
      sym (settles (bound_of n) docs docs' enough (same_near n n' docs docs' near near' (cc) same))

  pub stays_enough : (o o' : Option Near) (docs docs' : List Tree) → Nears o docs → Nears o' docs' → Enough o docs
      → option_map bound_of o' ≡ option_map bound_of o → settling_of o' docs' ≡ settling_of o docs → Enough o' docs'
  stays_enough None None docs docs' near near' enough bound same = tt
  stays_enough None (Some n') docs docs' near near' enough bound same = cc
  stays_enough (Some n) None docs docs' near near' enough bound same = tt
  stays_enough (Some n) (Some n') docs docs' near near' enough bound same =
      let b : bound_of n' ≡ bound_of n = cc in
      subst (λ (x : List Tree). IsBound e params x docs') (sym b) (bounds_both (bound_of n) docs docs' enough (same_near n n' docs docs' near near' b same))

  -- documents near a nearer bound among those that settle an answer are those of all
  pub narrowed : NearerIsWithin → (o : Option Near) (docs : List Tree) (n : Near) → Nears o docs
      → AreNearest e params (settling_of o docs) n
      → (near_docs n ≡ filter (is_near e params (bound_of n)) docs) × IsBound e params (bound_of n) docs
  narrowed nearer None docs n near m = (m.near, m.bound)
  narrowed nearer (Some k) docs n near m =
      let ds : List Tree = filter (is_near e params (bound_of k)) docs in
      let at : keys_at e params ds m.place ≡ Some (bound_of n) = ap (λ (us : List Tree). keys_at e params us m.place) (sym near) ∙ m.at in
      let within : filter (is_near e params (bound_of n)) ds ≡ filter (is_near e params (bound_of n)) docs
      = nearer e params (bound_of k) docs m.place (bound_of n) at in
      let bound : IsBound e params (bound_of n) ds = subst (IsBound e params (bound_of n)) near m.bound in
      (m.near ∙ ap (filter (is_near e params (bound_of n))) near ∙ within, bounds_both (bound_of n) ds docs bound within)

  -- they are enough where their number is
  pub enough_near : (n : Near) (docs : List Tree) → near_docs n ≡ filter (is_near e params (bound_of n)) docs → IsWithin e (length n.docs.items)
      → IsBound e params (bound_of n) docs
  enough_near n docs near w = record {
    within = w.within;
    is = w.is;
    enough = subst (λ (us : List Tree). w.within.many ≤ length us) near (subst (λ (k : ℕ). w.within.many ≤ k) (sym (length-map n.docs.items document_of)) w.enough);
  }

  -- documents that settle an answer ascend as all do
  pub settling_ascend : (o : Option Near) (docs : List Tree) → ascending docs ≡ true → Nears o docs → ascending (settling_of o docs) ≡ true
  settling_ascend None docs h near = h
  settling_ascend (Some n) docs h near = near_ascend e params (bound_of n) (near_docs n) docs near h

-- what the document at a place behind the window is ordered by bounds it
bounds_some : PlaceBoundsWindow → (e : Expression) (params : Pairs) (ds : List Tree) (place k : ℕ) (bound : List Tree) (o : Option Window) → window e ≡ o
    → option_map (λ (w : Window). w.many) o ≡ Some k → k ≤ place + 1 → keys_at e params ds place ≡ Some bound → IsBound e params bound ds
bounds_some law e params ds place k bound None h is low at = cc
bounds_some law e params ds place k bound (Some w) h is low at =
    let many : w.many ≡ k = cc in
    law e params w ds place bound h (omega (arith, many, low)) at

pub bounds_at : PlaceBoundsWindow → (e : Expression) (params : Pairs) (ds : List Tree) (place k : ℕ) (bound : List Tree)
    → option_map (λ (w : Window). w.many) (window e) ≡ Some k → k ≤ place + 1 → keys_at e params ds place ≡ Some bound → IsBound e params bound ds
bounds_at law e params ds place k bound is low at = bounds_some law e params ds place k bound (window e) refl is low at

-- what holds of a value that may be there holds of it where it is
pub some_is : {A : Type 0} (o : Option A) (x : A) (P : A → Type 0) → o ≡ Some x → IfSome o P → P x
some_is {A} o x P is h = subst (λ (m : Option A). IfSome m P) is h

-- what follows where there is a result
pub ok_then : {A E : Type 0} (r : Result A E) {P Q : Type 0} → (P → Q) → OnOk r P → OnOk r Q
ok_then (Ok x) f h = f h
ok_then (Err x) f h = tt

-- the trees of a bound
abbrev pub map_bound : Vec Val Global → List Tree
map_bound b = map tree b.items

-- no fewer than a window has, by its number
within_by : (e : Expression) (o : Option Window) (many count : ℕ) → window e ≡ o → option_map (λ (w : Window). w.many) o ≡ Some many → many ≤ count → IsWithin e count
within_by e None many count is h low = absurd (cc)
within_by e (Some w) many count is h low =
    let own : w.many ≡ many = cc in
    record { within = w; is = is; enough = omega (arith, low, own) }

pub is_within : (e : Expression) (many count : ℕ) → option_map (λ (w : Window). w.many) (window e) ≡ Some many → many ≤ count → IsWithin e count
is_within e many count h low = within_by e (window e) many count refl h low
