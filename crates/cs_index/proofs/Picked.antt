-- What a look-up picks are the documents that have the key.
use denote.Ref.{Bor}
use Rattle.std.proofs.Common.{◌≡◌, ℕ, ◌<◌, ◌+◌, length, drop, get_or, subst, List, [], ◌∷◌, ◌++◌, map, filter, Option, Some, None, Bool, true, false, cond, ◌&&◌, ◌||◌, refl, sym, ap, ◌∙◌, true≢false, nat_cmp, nat_eq, arith, option_map, eqb-true, eq-eqb}
use Rattle.std.proofs.lemmas.Grind.{common_steps}
use Rattle.std.proofs.lemmas.Cmp.{nat_cmp_total, tied_itself}
use Rattle.std.proofs.lemmas.List.{drop_more}
use Rattle.std.proofs.lemmas.List.Folds.{list_any-append}
use Rattle.cs_view.proofs.Booleans.{and-left}
use Rattle.std.specs.Option.{is_some}
use Rattle.std.specs.BTreeSet.{BTreeSet}
use Rattle.std.specs.BTreeMap.{is_at}
use Rattle.std.specs.BTreeMap.Range.{range_contains}
use Rattle.std.specs.List.{list_any}
use Rattle.std.specs.List.Sorted.{IsStrictlySortedBy}
use Rattle.std.specs.Map.{keys_of, lookup}
use Rattle.std.specs.declared.ops.Bound.TheVariants.{Included}
use Rattle.std.proofs.Math.Bool.{and-false}
use Rattle.cs_value.specs.Tree.{Tree}
use Rattle.cs_view.specs.Document.{id_of, passes}
use Rattle.cs_view.specs.Dataset.{id_cmp, same_id, standing, kept_if}
use Rattle.cs_view.specs.Keys.{has, has_all, selected}
use Rattle.cs_view.specs.declared.key.Key.{Key}
use Rattle.cs_view.specs.declared.key.Key.TheVariants.{Id}
use Rattle.cs_view.proofs.Datasets.{same_id-same, same_id-refl, same_id-sym, same_docs, ascending-filter, standing-filter}
use Rattle.cs_shelf.specs.Places.{Store, found, tree_at, trees_at}
use Rattle.cs_shelf.proofs.Standing.{Entry as PlaceEntry, AreSound, at-documents, sound_entries, at-trees, ascending-trees, some-trees, ascending-documents}
use Rattle.cs_docs.specs.Store.{docs, place_at, doc_at}
use Rattle.cs_docs.specs.declared.docs.Docs.{Docs}
use Rattle.cs_codes.specs.Codes.{is_among, key_code}
use Rattle.cs_codes.specs.Kinds.{side_coded, IsCoded}
use Rattle.cs_codes.specs.declared.coding.Coding.{Coding}
use Rattle.cs_index.specs.Entries.{entry_cmp, same_entry, entry, has_entry, AreEntriesOf}
use Rattle.cs_index.specs.Picking.{Hits, IsImplied, where_has, wanted, is_hit, is_found, is_found_at, is_found_among, places_in, under}
use Rattle.cs_index.specs.declared.entry.Entry.{Entry}
use Rattle.cs_index.proofs.Applied.{same_parts}
use Rattle.cs_codes.proofs.Coded.{coded_listed}

-- an id that is not wanted, and one that is
pub none_found : (d : Docs) (k : List Key) (y i : List ℕ) (a : Bool) → wanted d k i ≡ None → a ≡ (is_found d k i y || a)
none_found d k y i a h = by_test (same_id y i) refl where
  by_test : (b : Bool) → same_id y i ≡ b → a ≡ ((b && is_some (wanted d k y)) || a)
  by_test true e = sym (ap (λ w. is_some w || a) (ap (wanted d k) (same_id-same y i e) ∙ h))
  by_test false e = refl

pub one_found : (d : Docs) (k : List Key) (y : List ℕ) (h : Bor (List ℕ) × ℕ) (hs : Hits) → wanted d k h.0.now ≡ Some h.1 → is_hit y (hs ++ h ∷ []) ≡ (is_found d k h.0.now y || is_hit y hs)
one_found d k y h hs w = list_any-append (λ g. same_id y g.0.now) hs (h ∷ []) ∙ by_test (same_id y h.0.now) refl (is_hit y hs) where
  by_test : (b : Bool) → same_id y h.0.now ≡ b → (a : Bool) → (a || (b || false)) ≡ ((b && is_some (wanted d k y)) || a)
  by_test true e true = sym (ap (λ o. is_some o || true) (ap (wanted d k) (same_id-same y h.0.now e) ∙ w))
  by_test true e false = sym (ap (λ o. is_some o || false) (ap (wanted d k) (same_id-same y h.0.now e) ∙ w))
  by_test false e true = refl
  by_test false e false = refl

-- the id of what stands at a place has this place
at_place : (d : Docs) (k : List Key) (p : ℕ) (t : Tree) → doc_at d p ≡ Some t → wanted d k (id_of t) ≡ cond (has_all k t) (Some p) None
at_place d k p t h =
    ap (where_has d k) (d.shelf.entered p t h) ∙ ap (λ o. cond (passes (has_all k) o) (Some p) None) h

pub met_at : (d : Docs) (k : List Key) (p : ℕ) (t : Tree) → doc_at d p ≡ Some t → has_all k t ≡ true → wanted d k (id_of t) ≡ Some p
met_at d k p t h met = at_place d k p t h ∙ ap (λ b. cond b (Some p) None) met

pub unmet_at : (d : Docs) (k : List Key) (p : ℕ) (t : Tree) → doc_at d p ≡ Some t → has_all k t ≡ false → wanted d k (id_of t) ≡ None
unmet_at d k p t h unmet = at_place d k p t h ∙ ap (λ b. cond b (Some p) None) unmet

-- the one who is found at a place
pub found_at : (d : Docs) (k : List Key) (p : ℕ) (t : Tree) (y : List ℕ) → doc_at d p ≡ Some t → is_found_at d k p y ≡ is_found d k (id_of t) y
found_at d k p t y h = ap (λ o. passes (λ u. same_id y (id_of u)) o && is_some (wanted d k y)) h

pub nothing_at : (d : Docs) (k : List Key) (p : ℕ) (y : List ℕ) → doc_at d p ≡ None → is_found_at d k p y ≡ false
nothing_at d k p y h = ap (λ o. passes (λ u. same_id y (id_of u)) o && is_some (wanted d k y)) h

abbrev is_some_place : Option ℕ → Bool
is_some_place None = false
is_some_place (Some p) = true

abbrev or_zero : Option ℕ → ℕ
or_zero None = 0
or_zero (Some p) = p

some_not_none : (p : ℕ) → None ≡ Some p → ⊥
some_not_none p h = true≢false (sym (ap is_some_place h))

-- what is wanted at an id stands at the id's place, and has the key
wanted_place : (d : Docs) (k : List Key) (y : List ℕ) (p : ℕ) → wanted d k y ≡ Some p → (place_at d y ≡ Some p) × (passes (has_all k) (doc_at d p) ≡ true)
wanted_place d k y p h = by_place (place_at d y) refl h where
  by_test : (r : ℕ) → (b : Bool) → passes (has_all k) (doc_at d r) ≡ b → cond b (Some r) None ≡ Some p → (Some r ≡ Some p) × (passes (has_all k) (doc_at d p) ≡ true)
  by_test r true e g = (g, ap (λ (x : ℕ). passes (has_all k) (doc_at d x)) (sym (ap or_zero g)) ∙ e)
  by_test r false e g = absurd (some_not_none p g)

  by_place : (o : Option ℕ) → place_at d y ≡ o → where_has d k o ≡ Some p → (o ≡ Some p) × (passes (has_all k) (doc_at d p) ≡ true)
  by_place None e g = absurd (some_not_none p g)
  by_place (Some r) e g = by_test r (passes (has_all k) (doc_at d r)) refl g

-- ---- walks over entries
abbrev pub is_here : ℕ → List ℕ → Bool
is_here p ps = list_any (λ q. nat_eq q p) ps

nothing_found : (d : Docs) (k : List Key) (y : List ℕ) (ps : List ℕ) → wanted d k y ≡ None → is_found_among d k ps y ≡ false
nothing_found d k y [] h = refl
nothing_found d k y (p ∷ ps) h =
    ap (λ w. (passes (λ t. same_id y (id_of t)) (doc_at d p) && is_some w) || is_found_among d k ps y) h
    ∙ ap (λ b. b || is_found_among d k ps y) (and-false (passes (λ t. same_id y (id_of t)) (doc_at d p)))
    ∙ nothing_found d k y ps h

found_there : (d : Docs) (k : List Key) (y : List ℕ) (p : ℕ) (ps : List ℕ) → wanted d k y ≡ Some p → passes (λ t. same_id y (id_of t)) (doc_at d p) ≡ true → is_here p ps ≡ true → is_found_among d k ps y ≡ true
found_there d k y p [] h own g = absurd (true≢false (sym g))
found_there d k y p (q ∷ ps) h own g = by_test (found_there d k y p ps h own) (nat_eq q p) refl g where
  later : (a : Bool) → is_found_among d k ps y ≡ true → (a || is_found_among d k ps y) ≡ true
  later true i = refl
  later false i = i

  own_place : is_found_at d k p y ≡ true
  own_place = ap (λ b. b && is_some (wanted d k y)) own ∙ ap is_some h

  by_test : (is_here p ps ≡ true → is_found_among d k ps y ≡ true) → (b : Bool) → nat_eq q p ≡ b → (b || is_here p ps) ≡ true → (is_found_at d k q y || is_found_among d k ps y) ≡ true
  by_test ih true is g = ap (λ b. b || is_found_among d k ps y) (ap (λ (x : ℕ). is_found_at d k x y) (eqb-true q p is) ∙ own_place)
  by_test ih false is g = later (is_found_at d k q y) (ih g)

-- ---- the entries of a code
pub inside_low : (c p : ℕ) → range_contains entry_cmp (Included (entry c 0)) (Included (entry c 4294967295)) (entry c p) ≡ range_contains nat_cmp (Included 0) (Included 4294967295) p
inside_low c p = rw (tied_itself nat_cmp_total c) refl

pub inside_all : (p : ℕ) → p < 2147483648 → range_contains nat_cmp (Included 0) (Included 4294967295) p ≡ true
inside_all p h = grind (arith, common_steps)

pub here_filter : (c p : ℕ) (t : Entry → Bool) → t (entry c p) ≡ true → (es : List Entry) → list_any (is_at (entry_cmp (entry c p))) es ≡ true → is_here p (places_in (filter t es)) ≡ true
here_filter c p t h [] g = g
here_filter c p t h (e ∷ es) g = by_test (here_filter c p t h es) (same_entry (entry c p) e) refl g where
  own : nat_eq p p ≡ true
  own = eq-eqb p p refl

  later : (b : Bool) → is_here p (places_in (filter t es)) ≡ true → is_here p (places_in (cond b (e ∷ filter t es) (filter t es))) ≡ true
  later false k = k
  later true k = or_right (nat_eq e.place p) k where
    or_right : (a : Bool) {b : Bool} → b ≡ true → (a || b) ≡ true
    or_right true k = refl
    or_right false k = k

  by_test : (list_any (is_at (entry_cmp (entry c p))) es ≡ true → is_here p (places_in (filter t es)) ≡ true) → (b : Bool) → same_entry (entry c p) e ≡ b → (b || list_any (is_at (entry_cmp (entry c p))) es) ≡ true
      → is_here p (places_in (cond (t e) (e ∷ filter t es) (filter t es))) ≡ true
  by_test ih true is g =
      let s = same_parts c p e.code e.place is in
      let one : t e ≡ true = ap t (sym (ap (λ (x : ℕ). entry x e.place) s.0)) ∙ ap t (sym (ap (entry c) s.1)) ∙ h in
      ap (λ b. is_here p (places_in (cond b (e ∷ filter t es) (filter t es)))) one ∙ ap (λ (x : ℕ). nat_eq x p || is_here p (places_in (filter t es))) (sym s.1) ∙ ap (λ b. b || is_here p (places_in (filter t es))) own
  by_test ih false is g = later (t e) (ih g)

named : (d : Docs) (y : List ℕ) (p : ℕ) → place_at d y ≡ Some p → (Some y ≡ option_map id_of (doc_at d p)) × (passes (λ t. same_id y (id_of t)) (doc_at d p) ≡ true)
named d y p h = (sym (d.shelf.sound y p h), by_doc (doc_at d p) (d.shelf.sound y p h)) where
  text_of : Option (List ℕ) → List ℕ
  text_of None = []
  text_of (Some x) = x

  there : Option (List ℕ) → Bool
  there None = false
  there (Some x) = true

  by_doc : (o : Option Tree) → option_map id_of o ≡ Some y → passes (λ t. same_id y (id_of t)) o ≡ true
  by_doc None g = absurd (cc)
  by_doc (Some t) g = let e : id_of t ≡ y = cc in ap (same_id y) e ∙ same_id-refl y

pub has_codes : (coding : Coding) (k : Key) (o : Option Tree) → IsCoded coding k → passes (has k) o ≡ true → is_among (key_code coding.seed k) (side_coded coding o) ≡ true
has_codes coding k None kept h = absurd (true≢false (sym h))
has_codes coding k (Some t) kept h = coded_listed coding k t kept h

found_doc : (d : Docs) (y : List ℕ) (p : ℕ) → place_at d y ≡ Some p → standing y (docs d) ≡ doc_at d p
found_doc d y p h = at-documents d.shelf y ∙ ap (found d.shelf.store) h

implied : (k : Key) (ks : List Key) (o : Option Tree) → IsImplied k ks → passes (has_all ks) o ≡ true → passes (has k) o ≡ true
implied k ks None one h = absurd (true≢false (sym h))
implied k ks (Some t) one h = one t h

-- a key that stands among others is implied by them
pub implied-here : (ks : List Key) (i : ℕ) (k : Key) → i < length ks → k ≡ get_or ks i k → ((t : Tree) → has_all ks t ≡ true → has_all (drop i ks) t ≡ true) → IsImplied k ks
implied-here ks i k low is holds t all = and-left (has k t) _ (subst (λ (xs : List Key). has_all xs t ≡ true) (drop_more ks i k low ∙ ap (λ (x : Key). x ∷ drop (i + 1) ks) (sym is)) (holds t all))

pub all_found : (coding : Coding) (d : Docs) (m : BTreeSet Entry) (k : Key) (ks : List Key) → IsCoded coding k → IsImplied k ks → AreEntriesOf coding m d → (y : List ℕ) → is_found_among d ks (places_in (under m (key_code coding.seed k))) y ≡ is_some (wanted d ks y)
all_found coding d m k ks kept one are y = by_wanted (wanted d ks y) refl where
  by_wanted : (o : Option ℕ) → wanted d ks y ≡ o → is_found_among d ks (places_in (under m (key_code coding.seed k))) y ≡ is_some o
  by_wanted None h = nothing_found d ks y (places_in (under m (key_code coding.seed k))) h
  by_wanted (Some p) h =
      let w = wanted_place d ks y p h in
      let stands : has_entry m (entry (key_code coding.seed k) p) ≡ true = are y (key_code coding.seed k) p w.0 (ap (λ (o : Option Tree). is_among (key_code coding.seed k) (side_coded coding o)) (found_doc d y p w.0) ∙ has_codes coding k (doc_at d p) kept (implied k ks (doc_at d p) one w.1)) in
      found_there d ks y p (places_in (under m (key_code coding.seed k))) h (named d y p w.0).1
      (here_filter (key_code coding.seed k) p (range_contains entry_cmp (Included (entry (key_code coding.seed k) 0)) (Included (entry (key_code coding.seed k) 4294967295))) (inside_low (key_code coding.seed k) p ∙ inside_all p (d.shelf.low y p w.0)) m.keys stands)

-- ---- the documents at what was picked
second : (s : Store) (es : List PlaceEntry) → map (tree_at s) (map (λ e. e.1) es) ≡ map (λ e. tree_at s e.1) es
second s [] = refl
second s (e ∷ es) = ap (λ r. tree_at s e.1 ∷ r) (second s es)

kept_there : (d : Docs) (k : List Key) (o : Option ℕ) → found d.shelf.store (where_has d k o) ≡ kept_if (has_all k) (found d.shelf.store o)
kept_there d k None = refl
kept_there d k (Some p) = by_doc (doc_at d p) refl where
  by_test : (t : Tree) → doc_at d p ≡ Some t → (b : Bool) → found d.shelf.store (cond b (Some p) None) ≡ cond b (Some t) None
  by_test t g true = g
  by_test t g false = refl

  by_doc : (o : Option Tree) → doc_at d p ≡ o → found d.shelf.store (cond (passes (has_all k) o) (Some p) None) ≡ kept_if (has_all k) o
  by_doc None g = refl
  by_doc (Some t) g = by_test t g (has_all k t)

pub picked : (d : Docs) (ks : List Key) (es : List PlaceEntry) → IsStrictlySortedBy id_cmp (keys_of es) → ((y : List ℕ) → lookup (is_at (id_cmp y)) es ≡ wanted d ks y) → map (doc_at d) (map (λ e. e.1) es) ≡ map Some (selected ks (docs d))
picked d ks es ordered is =
    let s : Store = d.shelf.store in
    let sound : AreSound s es = sound_entries s es ordered (λ x p h. d.shelf.sound x p (wanted_place d ks x p (sym (is x) ∙ h)).0) in
    second s es ∙ some-trees s es sound
    ∙ ap (map Some) (same_docs (trees_at s es) (selected ks (docs d)) (ascending-trees s es sound ordered) (ascending-filter (has_all ks) (docs d) (ascending-documents d.shelf))
    (λ q. at-trees s es sound q ∙ ap (found s) (is q) ∙ kept_there d ks (place_at d q) ∙ sym (ap (kept_if (has_all ks)) (at-documents d.shelf q)) ∙ sym (standing-filter (has_all ks) q (docs d) (ascending-documents d.shelf))))

-- where an id is one of the keys, no other document is wanted
pub one_id : (d : Docs) (ks : List Key) (i y : List ℕ) → IsImplied (Id i) ks → (is_found d ks i y || false) ≡ is_some (wanted d ks y)
one_id d ks i y one = by_test (same_id y i) refl where
  same : (b : Bool) → (b || false) ≡ b
  same true = refl
  same false = refl

  other : same_id y i ≡ false → (o : Option ℕ) → wanted d ks y ≡ o → false ≡ is_some o
  other f None h = refl
  other f (Some p) h = absurd (true≢false (sym (matches (doc_at d p) (d.shelf.sound y p (wanted_place d ks y p h).0) (implied (Id i) ks (doc_at d p) one (wanted_place d ks y p h).1)) ∙ same_id-sym i y ∙ f)) where
    matches : (o : Option Tree) → option_map id_of o ≡ Some y → passes (has (Id i)) o ≡ true → same_id i y ≡ true
    matches None g m = absurd (true≢false (sym m))
    matches (Some t) g m = let e : id_of t ≡ y = cc in sym (ap (same_id i) e) ∙ m

  by_test : (b : Bool) → same_id y i ≡ b → ((b && is_some (wanted d ks y)) || false) ≡ is_some (wanted d ks y)
  by_test true e = same (is_some (wanted d ks y))
  by_test false e = other e (wanted d ks y) refl
