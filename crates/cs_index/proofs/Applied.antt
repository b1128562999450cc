-- Entries that changes were applied to are those of the store after the changes.
use Rattle.std.proofs.Common.{◌≡◌, ℕ, List, [], ◌∷◌, Option, Some, None, Bool, true, false, cond, not, ◌&&◌, ◌||◌, is_some, refl, sym, ap, ◌∙◌, subst, true≢false, Ordering, Less, Equal, Greater, is_eq, nat_cmp, nat_eq, eqb-true}
use Rattle.std.proofs.lemmas.Map.Lookups.{exact_unsigned}
use Rattle.std.proofs.lemmas.Cmp.{nat_cmp_total, tied_itself}
use Rattle.std.specs.Ordering.{ordering_then}
use Rattle.std.specs.BTreeSet.{BTreeSet}
use Rattle.std.specs.FinMap.Entries.{find}
use Rattle.cs_value.specs.Tree.{Tree}
use Rattle.cs_view.specs.Document.{id_of}
use Rattle.cs_view.specs.Dataset.{id_cmp, same_id, standing}
use Rattle.cs_view.specs.Changes.{Edit, are_changes, LeadFrom, LeadTo, after_changes, after_of}
use Rattle.cs_view.proofs.Datasets.{same_id-same}
use Rattle.cs_view.proofs.Changed.{own_ids, standing-after_changes, after_changes-leads}
use Rattle.cs_shelf.specs.Places.{found}
use Rattle.cs_shelf.proofs.Standing.{at-documents}
use Rattle.cs_docs.specs.Store.{docs, doc_at, place_at, ArePlacesSteady}
use Rattle.cs_docs.specs.declared.docs.Docs.{Docs}
use Rattle.cs_codes.specs.Codes.{is_among}
use Rattle.cs_codes.specs.Kinds.{coded, side_coded}
use Rattle.cs_codes.specs.declared.coding.Coding.{Coding}
use Rattle.cs_index.specs.Entries.{same_entry, entry, has_entry, is_put, is_put_at, puts, parts, gains, enters, or_some, AreEntriesOf}
use Rattle.cs_docs.specs.Gathered.{entering}
use Rattle.cs_index.specs.declared.entry.Entry.{Entry}
use Rattle.cs_index.proofs.Marks.{one_code}

-- ---- entries
equal_both : (o p : Ordering) → is_eq (ordering_then o p) ≡ true → (o ≡ Equal) × (p ≡ Equal)
equal_both Equal Equal h = (refl, refl)
equal_both Equal Less h = absurd (true≢false (sym h))
equal_both Equal Greater h = absurd (true≢false (sym h))
equal_both Less p h = absurd (true≢false (sym h))
equal_both Greater p h = absurd (true≢false (sym h))

pub same_parts : (a p c r : ℕ) → same_entry (entry a p) (entry c r) ≡ true → (a ≡ c) × (p ≡ r)
same_parts a p c r h = let e = equal_both (nat_cmp a c) (nat_cmp p r) h in (exact_unsigned a c e.0, exact_unsigned p r e.1)

pub same_itself : (c p : ℕ) → same_entry (entry c p) (entry c p) ≡ true
same_itself c p = ap (λ o. is_eq (ordering_then o (nat_cmp p p))) (tied_itself nat_cmp_total c) ∙ ap is_eq (tied_itself nat_cmp_total p)

put_found : (out : ℕ → Bool) (p c : ℕ) (cs : List ℕ) → out c ≡ false → is_among c cs ≡ true → is_put out p cs (entry c p) ≡ true
put_found out p c [] o h = h
put_found out p c (x ∷ xs) o h = by_test (put_found out p c xs o) (nat_eq c x) refl h where
  by_test : (is_among c xs ≡ true → is_put out p xs (entry c p) ≡ true) → (b : Bool) → nat_eq c x ≡ b → (b || is_among c xs) ≡ true → is_put out p (x ∷ xs) (entry c p) ≡ true
  by_test ih true e h = subst (λ (y : ℕ). is_put out p (y ∷ xs) (entry c p) ≡ true) (eqb-true c x e) (here o) where
    here : out c ≡ false → is_put out p (c ∷ xs) (entry c p) ≡ true
    here o = rw (o, same_itself c p) refl
  by_test ih false e h = later (not (out x) && same_entry (entry x p) (entry c p)) (ih h) where
    later : (a : Bool) {b : Bool} → b ≡ true → (a || b) ≡ true
    later true k = refl
    later false k = k

same_number : (c : ℕ) → nat_eq c c ≡ true
same_number c = sym (one_code c c) ∙ ap is_eq (tied_itself nat_cmp_total c)

put_only : (out : ℕ → Bool) (r c p : ℕ) (cs : List ℕ) → is_put out r cs (entry c p) ≡ true → (r ≡ p) × (out c ≡ false) × (is_among c cs ≡ true)
put_only out r c p [] h = absurd (true≢false (sym h))
put_only out r c p (x ∷ xs) h = by_tests (put_only out r c p xs) (out x) refl (same_entry (entry x r) (entry c p)) refl h where
  later : (a : Bool) {b : Bool} → b ≡ true → (a || b) ≡ true
  later true k = refl
  later false k = k

  past : (r ≡ p) × (out c ≡ false) × (is_among c xs ≡ true) → (r ≡ p) × (out c ≡ false) × (is_among c (x ∷ xs) ≡ true)
  past o = (o.0, o.1, later (nat_eq c x) o.2)

  by_tests : (is_put out r xs (entry c p) ≡ true → (r ≡ p) × (out c ≡ false) × (is_among c xs ≡ true)) → (a : Bool) → out x ≡ a → (b : Bool) → same_entry (entry x r) (entry c p) ≡ b
      → ((not a && b) || is_put out r xs (entry c p)) ≡ true → (r ≡ p) × (out c ≡ false) × (is_among c (x ∷ xs) ≡ true)
  by_tests ih false e true f h =
      let s = same_parts x r c p f in
      (s.1, sym (ap out s.0) ∙ e, ap (λ b. b || is_among c xs) (ap (nat_eq c) s.0 ∙ same_number c))
  by_tests ih false e false f h = past (ih h)
  by_tests ih true e b f h = past (ih h)

-- whether an entry is put hangs on which codes there are, not on their order
pub put_alike : (f g : ℕ → Bool) (p : ℕ) (cs ds : List ℕ) → ((x : ℕ) → f x ≡ g x) → ((x : ℕ) → is_among x cs ≡ is_among x ds) → (q : Entry) → is_put f p cs q ≡ is_put g p ds q
put_alike f g p cs ds out among q = both (is_put f p cs q) (is_put g p ds q) to from where
  there : (h : ℕ → Bool) (es : List ℕ) → p ≡ q.place → h q.code ≡ false → is_among q.code es ≡ true → is_put h p es q ≡ true
  there h es at o e = ap (λ r. is_put h r es q) at ∙ put_found h q.place q.code es o e

  to : is_put f p cs q ≡ true → is_put g p ds q ≡ true
  to k = let o = put_only f p q.code q.place cs k in there g ds o.0 (sym (out q.code) ∙ o.1) (sym (among q.code) ∙ o.2)

  from : is_put g p ds q ≡ true → is_put f p cs q ≡ true
  from k = let o = put_only g p q.code q.place ds k in there f cs o.0 (out q.code ∙ o.1) (among q.code ∙ o.2)

  both : (a b : Bool) → (a ≡ true → b ≡ true) → (b ≡ true → a ≡ true) → a ≡ b
  both true b t u = sym (t refl)
  both false true t u = u refl
  both false false t u = refl

-- ---- puts
put_kept : (test : Edit → Bool) (cs : List Edit) → or_some test cs true ≡ true
put_kept test [] = refl
put_kept test (c ∷ cs) = ap (or_some test cs) (still (test c)) ∙ put_kept test cs where
  still : (b : Bool) → cond b true true ≡ true
  still true = refl
  still false = refl

passed : (test : Edit → Bool) (x : List ℕ) (s : Option Tree × Option Tree) (cs : List Edit) (b : Bool) → find id_cmp x cs ≡ Some s → test (x, s) ≡ true → or_some test cs b ≡ true
passed test x s [] b f h = absurd (true≢false (sym (ap (λ (o : Option (Option Tree × Option Tree)). is_there o) f))) where
  is_there : Option (Option Tree × Option Tree) → Bool
  is_there None = false
  is_there (Some t) = true
passed test x s (e ∷ es) b f h = by_test (λ b f. passed test x s es b f h) (same_id x e.0) refl f where
  side : Option (Option Tree × Option Tree) → Option Tree × Option Tree
  side None = s
  side (Some t) = t

  by_test : ((b : Bool) → find id_cmp x es ≡ Some s → or_some test es b ≡ true) → (t : Bool) → same_id x e.0 ≡ t → cond t (Some e.1) (find id_cmp x es) ≡ Some s → or_some test (e ∷ es) b ≡ true
  by_test ih false t f = ih (cond (test e) true b) f
  by_test ih true t f = ap (λ a. or_some test es (cond a true b)) (here (same_id-same x e.0 t) (ap side f)) ∙ put_kept test es where
    here : x ≡ e.0 → e.1 ≡ s → test e ≡ true
    here i is = sym (ap (λ (y : List ℕ). test (y, e.1)) i) ∙ ap (λ (r : Option Tree × Option Tree). test (x, r)) is ∙ h

puts_it : (coding : Coding) (d : Docs) (x : List ℕ) (c p : ℕ) (s : Option Tree × Option Tree) → place_at d x ≡ Some p → is_among c (side_coded coding s.1) ≡ true → is_among c (side_coded coding s.0) ≡ false
    → puts coding d (entry c p) (x, s) ≡ true
puts_it coding d x c p s at has hasnt =
    ap (λ o. is_put_at (λ y. is_among y (side_coded coding s.0)) o (side_coded coding s.1) (entry c p)) at ∙ put_found (λ y. is_among y (side_coded coding s.0)) p c (side_coded coding s.1) hasnt has

-- the document at a place is entered with the place, so these are the entries that it enters
pub put_at_place : (coding : Coding) (d : Docs) (p : ℕ) (t : Tree) (q : Entry) → doc_at d p ≡ Some t → is_put (λ x. false) p (coded coding t) q ≡ puts coding d q (id_of t, (None, Some t))
put_at_place coding d p t q h = sym (ap (λ o. is_put_at (λ x. false) o (coded coding t) q) (d.shelf.entered p t h))

-- ---- partings
abbrev text_of : Option (List ℕ) → List ℕ
text_of None = []
text_of (Some x) = x

pub one_place : (d : Docs) (x y : List ℕ) (p : ℕ) → place_at d x ≡ Some p → place_at d y ≡ Some p → x ≡ y
one_place d x y p h g = ap text_of (sym (d.shelf.sound x p h) ∙ d.shelf.sound y p g)

not_parted : (coding : Coding) (d : Docs) (now : List Tree) (x : List ℕ) (c p : ℕ) (cs : List Edit) → LeadTo now cs → place_at d x ≡ Some p → is_among c (side_coded coding (standing x now)) ≡ true → or_some (parts coding d (entry c p)) cs false ≡ false
not_parted coding d now x c p [] lead at has = refl
not_parted coding d now x c p (e ∷ es) lead at has = ap (λ a. or_some (parts coding d (entry c p)) es (cond a true false)) (none (place_at d e.0) refl) ∙ not_parted coding d now x c p es lead.1 at has where
  some : (r : ℕ) → place_at d e.0 ≡ Some r → (b : Bool) → is_put (λ y. is_among y (side_coded coding e.1.1)) r (side_coded coding e.1.0) (entry c p) ≡ b → b ≡ false
  some r g false h = refl
  some r g true h =
      let o = put_only (λ y. is_among y (side_coded coding e.1.1)) r c p (side_coded coding e.1.0) h in
      let same : x ≡ e.0 = one_place d x e.0 p at (g ∙ ap Some o.0) in
      absurd (true≢false (sym (ap (λ (t : Option Tree). is_among c (side_coded coding t)) (lead.0 ∙ ap (λ (i : List ℕ). standing i now) (sym same)) ∙ has) ∙ o.1))

  none : (o : Option ℕ) → place_at d e.0 ≡ o → is_put_at (λ y. is_among y (side_coded coding e.1.1)) o (side_coded coding e.1.0) (entry c p) ≡ false
  none None g = refl
  none (Some r) g = some r g _ refl

-- ---- what stands has a place
no_codes : (coding : Coding) (c : ℕ) (o : Option Tree) → o ≡ None → is_among c (side_coded coding o) ≡ true → ⊥
no_codes coding c o e h = true≢false (sym h ∙ ap (λ (t : Option Tree). is_among c (side_coded coding t)) e)

stays_there : (was now : Docs) (x : List ℕ) (p : ℕ) → ArePlacesSteady was now → place_at now x ≡ Some p → (standing x (docs was) ≡ None → ⊥) → place_at was x ≡ Some p
stays_there was now x p steady at stood = by_place (place_at was x) refl where
  by_place : (o : Option ℕ) → place_at was x ≡ o → o ≡ Some p
  by_place None h = absurd (stood (at-documents was.shelf x ∙ ap (found was.shelf.store) h))
  by_place (Some r) h = ap Some (steady x r p h at)

pub stays : (coding : Coding) (was now : Docs) (x : List ℕ) (c p : ℕ) → ArePlacesSteady was now → place_at now x ≡ Some p → is_among c (side_coded coding (standing x (docs was))) ≡ true → place_at was x ≡ Some p
stays coding was now x c p steady at has = stays_there was now x p steady at (λ e. no_codes coding c (standing x (docs was)) e has)

led : (ds : List Tree) (x : List ℕ) (cs : List Edit) (s : Option Tree × Option Tree) → LeadFrom ds cs → find id_cmp x cs ≡ Some s → s.0 ≡ standing x ds
led ds x [] s l f = absurd (cc)
led ds x (e ∷ es) s l f = by_test (led ds x es s l.1) (same_id x e.0) refl f where
  by_test : (find id_cmp x es ≡ Some s → s.0 ≡ standing x ds) → (t : Bool) → same_id x e.0 ≡ t → cond t (Some e.1) (find id_cmp x es) ≡ Some s → s.0 ≡ standing x ds
  by_test ih false t f = ih f
  by_test ih true t f = let is : e.1 ≡ s = cc in sym (ap (λ (r : Option Tree × Option Tree). r.0) is) ∙ l.0 ∙ ap (λ (i : List ℕ). standing i ds) (sym (same_id-same x e.0 t))

module _ (coding : Coding) (was now : Docs) (cs : List Edit) (m n : BTreeSet Entry)
    (is : (q : Entry) → has_entry n q ≡ or_some (enters coding now q) cs (cond (or_some (gains coding was q) cs false) true (cond (or_some (parts coding was q) cs false) false (has_entry m q))))
    (changes : are_changes cs ≡ true) (lead : LeadFrom (docs was) cs) (after : docs now ≡ after_changes (docs was) cs) (steady : ArePlacesSteady was now) (old : AreEntriesOf coding m was) where
  -- what is in before the documents that changes make is in
  stays_in : (c p : ℕ) → cond (or_some (gains coding was (entry c p)) cs false) true (cond (or_some (parts coding was (entry c p)) cs false) false (has_entry m (entry c p))) ≡ true → has_entry n (entry c p) ≡ true
  stays_in c p h = is (entry c p) ∙ ap (or_some (enters coding now (entry c p)) cs) h ∙ put_kept (enters coding now (entry c p)) cs

  -- an entry of a code that was had and is had stays
  both_sides : (x : List ℕ) (c p : ℕ) → place_at now x ≡ Some p → is_among c (side_coded coding (standing x (docs now))) ≡ true → is_among c (side_coded coding (standing x (docs was))) ≡ true → has_entry n (entry c p) ≡ true
  both_sides x c p at has had = stays_in c p (ap (λ b. cond g true b) kept ∙ still g) where
    g : Bool
    g = or_some (gains coding was (entry c p)) cs false

    still : (b : Bool) → cond b true true ≡ true
    still true = refl
    still false = refl

    place : place_at was x ≡ Some p
    place = stays coding was now x c p steady at had

    kept : cond (or_some (parts coding was (entry c p)) cs false) false (has_entry m (entry c p)) ≡ true
    kept =
        ap (λ a. cond a false (has_entry m (entry c p))) (not_parted coding was (docs now) x c p cs (subst (λ (ds : List Tree). LeadTo ds cs) (sym after) (after_changes-leads (docs was) cs changes)) place has) ∙ old x c p place had

  -- an entry of a code that was not had is put
  new_code : (x : List ℕ) (c p : ℕ) (s : Option Tree × Option Tree) → place_at now x ≡ Some p → find id_cmp x cs ≡ Some s → is_among c (side_coded coding s.1) ≡ true → is_among c (side_coded coding s.0) ≡ false → has_entry n (entry c p) ≡ true
  new_code x c p s at f has hasnt = by_before s.0 refl where
    by_before : (o : Option Tree) → s.0 ≡ o → has_entry n (entry c p) ≡ true
    by_before None e =
        is (entry c p) ∙ passed (enters coding now (entry c p)) x s cs _ f (ap (λ o. not (is_some o) && puts coding now (entry c p) (x, s)) e ∙ puts_it coding now x c p s at has hasnt)
    by_before (Some t) e =
        let there : standing x (docs was) ≡ Some t = sym (led (docs was) x cs s lead f) ∙ e in
        let place : place_at was x ≡ Some p = stays_there was now x p steady at (λ none. absurd (true≢false (ap is_some (sym there ∙ none)))) in
        stays_in c p
        (ap (λ b. cond b true (cond (or_some (parts coding was (entry c p)) cs false) false (has_entry m (entry c p))))
        (passed (gains coding was (entry c p)) x s cs false f (ap (λ o. is_some o && puts coding was (entry c p) (x, s)) e ∙ puts_it coding was x c p s place has hasnt)))

  pub applied : AreEntriesOf coding n now
  applied x c p at has = by_change (find id_cmp x cs) refl where
    there : standing x (docs now) ≡ after_of (find id_cmp x cs) (standing x (docs was))
    there = ap (standing x) after ∙ standing-after_changes x (docs was) cs (own_ids cs changes)

    by_side : (s : Option Tree × Option Tree) → find id_cmp x cs ≡ Some s → (b : Bool) → is_among c (side_coded coding s.0) ≡ b → has_entry n (entry c p) ≡ true
    by_side s f true h = both_sides x c p at has (sym (ap (λ (t : Option Tree). is_among c (side_coded coding t)) (led (docs was) x cs s lead f)) ∙ h)
    by_side s f false h = new_code x c p s at f (sym (ap (λ (t : Option Tree). is_among c (side_coded coding t)) (there ∙ ap (λ g. after_of g (standing x (docs was))) f)) ∙ has) h

    by_change : (f : Option (Option Tree × Option Tree)) → find id_cmp x cs ≡ f → has_entry n (entry c p) ≡ true
    by_change None f = both_sides x c p at has (sym (ap (λ (t : Option Tree). is_among c (side_coded coding t)) (there ∙ ap (λ g. after_of g (standing x (docs was))) f)) ∙ has)
    by_change (Some s) f = by_side s f (is_among c (side_coded coding s.0)) refl

-- ---- the entries of a whole store
find_entering : (x : List ℕ) (ds : List Tree) (t : Tree) → standing x ds ≡ Some t → find id_cmp x (entering ds) ≡ Some (None, Some t)
find_entering x [] t h = absurd (cc)
find_entering x (e ∷ es) t h = by_test (find_entering x es t) (same_id x (id_of e)) refl h where
  by_test : (standing x es ≡ Some t → find id_cmp x (entering es) ≡ Some (None, Some t)) → (b : Bool) → same_id x (id_of e) ≡ b → cond b (Some e) (standing x es) ≡ Some t → cond b (Some (None, Some e)) (find id_cmp x (entering es)) ≡ Some (None, Some t)
  by_test ih true k h = let s : e ≡ t = cc in ap (λ (y : Tree). Some (None, Some y)) s
  by_test ih false k h = ih h

pub built : (coding : Coding) (d : Docs) (n : BTreeSet Entry) (b : Entry → Bool) → ((q : Entry) → has_entry n q ≡ or_some (puts coding d q) (entering (docs d)) (b q)) → AreEntriesOf coding n d
built coding d n b is x c p at has = by_doc (standing x (docs d)) refl where
  by_doc : (o : Option Tree) → standing x (docs d) ≡ o → has_entry n (entry c p) ≡ true
  by_doc None h = absurd (no_codes coding c (standing x (docs d)) h has)
  by_doc (Some t) h =
      is (entry c p)
      ∙ passed (puts coding d (entry c p)) x (None, Some t) (entering (docs d)) _ (find_entering x (docs d) t h) (puts_it coding d x c p (None, Some t) at (sym (ap (λ (y : Option Tree). is_among c (side_coded coding y)) h) ∙ has) refl)

-- the entries of a store are those of one with the same documents at the same places
pub refitted : (coding : Coding) (was now : Docs) (m : BTreeSet Entry) → ArePlacesSteady was now → docs now ≡ docs was → AreEntriesOf coding m was → AreEntriesOf coding m now
refitted coding was now m steady same old x c p at has =
    let had : is_among c (side_coded coding (standing x (docs was))) ≡ true = sym (ap (λ (ds : List Tree). is_among c (side_coded coding (standing x ds))) same) ∙ has in
    old x c p (stays coding was now x c p steady at had) had

-- what both sides have is left out
left_out : (out : ℕ → Bool) (o : Option ℕ) (c p : ℕ) (cs : List ℕ) → out c ≡ true → is_put_at out o cs (entry c p) ≡ false
left_out out None c p cs h = refl
left_out out (Some r) c p cs h = by_test (is_put out r cs (entry c p)) refl where
  by_test : (b : Bool) → is_put out r cs (entry c p) ≡ b → b ≡ false
  by_test false e = refl
  by_test true e = absurd (true≢false (sym h ∙ (put_only out r c p cs e).1))

pub shared : (coding : Coding) (d : Docs) (e : Edit) (c p : ℕ) → is_among c (side_coded coding e.1.0) ≡ true → is_among c (side_coded coding e.1.1) ≡ true → (puts coding d (entry c p) e ≡ false) × (parts coding d (entry c p) e ≡ false)
shared coding d e c p before after =
    (left_out (λ y. is_among y (side_coded coding e.1.0)) (place_at d e.0) c p (side_coded coding e.1.1) before, left_out (λ y. is_among y (side_coded coding e.1.1)) (place_at d e.0) c p (side_coded coding e.1.0) after)
