-- The three steps in which changes are put into a store, and how the first is undone.
use Rattle.std.specs.Prelude.{Result, Ok, Err, OnOk, OnErr}
use Rattle.std.proofs.Common.{◌≡◌, ℕ, ◌≤◌, List, [], ◌∷◌, ◌++◌, length, Bool, true, false, not, cond, is_some, Option, Some, None, option_and_then, refl, sym, ap, subst, ◌∙◌, append_assoc}
use Rattle.std.specs.List.{AllByRecursion}
use Rattle.std.specs.Option.{option_to_list}
use Rattle.std.specs.Ordering.{is_lt}
use Rattle.std.specs.FinMap.Entries.{find, below_all}
use Rattle.std.proofs.lemmas.Bool.{and_from}
use Rattle.std.proofs.lemmas.List.{append-nil}
use Rattle.cs_value.specs.Tree.{Tree}
use Rattle.cs_view.specs.Document.{id_of, passes}
use Rattle.cs_view.specs.Dataset.{id_cmp, same_id, keyed, standing, stands, ascending, with_doc, without}
use Rattle.cs_view.specs.Changes.{Edit, ids_ascend, is_of_id, are_changes, LeadFrom, after_changes, after_of}
use Rattle.cs_view.proofs.Booleans.{and-left, and-right}
use Rattle.cs_view.proofs.Datasets.{same_id-same, same_id-sym, lower-differs, find-above, standing-with_doc, standing-without, ascending-placed, same_docs}
use Rattle.cs_view.proofs.Changed.{OwnIds, own_ids, standing-after_changes, ascending-after_changes, each_found, AreFoundIn}
use Rattle.cs_shelf.proofs.Gathering.{goes_last}
use Rattle.cs_docs.specs.Limits.{most_documents}
use Rattle.cs_docs.specs.References.{clean}
use Rattle.cs_docs.specs.Installing.{Sides, entered, replaced, put, is_new, is_gone, picked, with_all, without_all}
use Rattle.cs_docs.specs.Verdict.{fits, verdict, AreTaken}
use Rattle.cs_docs.proofs.Clean.{fits-within-clean}

-- what is put in a change's place has its id
abbrev pub Owned : (Sides → Option Tree) → List Edit → Type 0
Owned pick cs = AllByRecursion (λ c. is_of_id c.0 (pick c.1) ≡ true) cs

own_side : (id : List ℕ) (b : Bool) (o : Option Tree) → is_of_id id o ≡ true → is_of_id id (cond b None o) ≡ true
own_side id true o h = refl
own_side id false o h = h

own_side' : (id : List ℕ) (b : Bool) (o : Option Tree) → is_of_id id o ≡ true → is_of_id id (cond b o None) ≡ true
own_side' id true o h = h
own_side' id false o h = refl

pub own_entered : (cs : List Edit) → OwnIds cs → Owned entered cs
own_entered [] h = tt
own_entered (c ∷ cs) h = (own_side c.0 (is_some c.1.0) c.1.1 h.0.1, own_entered cs h.1)

pub own_replaced : (cs : List Edit) → OwnIds cs → Owned replaced cs
own_replaced [] h = tt
own_replaced (c ∷ cs) h = (own_side' c.0 (is_some c.1.0) c.1.1 h.0.1, own_replaced cs h.1)

pub own_put : (cs : List Edit) → OwnIds cs → Owned put cs
own_put [] h = tt
own_put (c ∷ cs) h = (h.0.1, own_put cs h.1)

-- ---- what stands under an id after the steps
abbrev pub or_now : Option Tree → Option Tree → Option Tree
or_now None now = now
or_now (Some d) now = Some d

above_all : (q : List ℕ) (c : Edit) (cs : List Edit) → ids_ascend (c ∷ cs) ≡ true → same_id q c.0 ≡ true → find id_cmp q cs ≡ None
above_all q c cs h e = subst (λ (z : List ℕ). find id_cmp z cs ≡ None) (sym (same_id-same q c.0 e)) (find-above c.0 cs (and-left _ _ h))

pub standing-with_all : (pick : Sides → Option Tree) (q : List ℕ) (cs : List Edit) (ds : List Tree) → ids_ascend cs ≡ true → Owned pick cs
    → standing q (with_all (picked pick cs) ds) ≡ or_now (option_and_then pick (find id_cmp q cs)) (standing q ds)
standing-with_all pick q [] ds h own = refl
standing-with_all pick q (c ∷ cs) ds h own = by_side (λ es. standing-with_all pick q cs es (and-right (below_all id_cmp c.0 cs) _ h) own.1) (pick c.1) refl own.0 (same_id q c.0) refl where
  by_side : ((es : List Tree) → standing q (with_all (picked pick cs) es) ≡ or_now (option_and_then pick (find id_cmp q cs)) (standing q es))
      → (o : Option Tree) → pick c.1 ≡ o → is_of_id c.0 o ≡ true → (b : Bool) → same_id q c.0 ≡ b
      → standing q (with_all (option_to_list o ++ picked pick cs) ds) ≡ or_now (option_and_then pick (cond b (Some c.1) (find id_cmp q cs))) (standing q ds)
  by_side later None p w true e = later ds ∙ ap (λ f. or_now (option_and_then pick f) (standing q ds)) (above_all q c cs h e) ∙ sym (ap (λ o. or_now o (standing q ds)) p)
  by_side later None p w false e = later ds
  by_side later (Some d) p w true e =
      later (with_doc d ds) ∙ ap (λ f. or_now (option_and_then pick f) (standing q (with_doc d ds))) (above_all q c cs h e)
      ∙ standing-with_doc q d ds ∙ ap (λ b. cond b (Some d) (standing q ds)) (ap (same_id q) (sym (same_id-same c.0 (id_of d) w)) ∙ e) ∙ sym (ap (λ o. or_now o (standing q ds)) p)
  by_side later (Some d) p w false e =
      later (with_doc d ds) ∙ ap (or_now (option_and_then pick (find id_cmp q cs))) (standing-with_doc q d ds ∙ ap (λ b. cond b (Some d) (standing q ds)) (ap (same_id q) (sym (same_id-same c.0 (id_of d) w)) ∙ e))

pub standing-without_all : (gone : Sides → Bool) (q : List ℕ) (cs : List Edit) (ds : List Tree) → ids_ascend cs ≡ true
    → standing q (without_all gone cs ds) ≡ cond (passes gone (find id_cmp q cs)) None (standing q ds)
standing-without_all gone q [] ds h = refl
standing-without_all gone q (c ∷ cs) ds h = by_test (λ es. standing-without_all gone q cs es (and-right (below_all id_cmp c.0 cs) _ h)) (gone c.1) refl (same_id q c.0) refl where
  by_test : ((es : List Tree) → standing q (without_all gone cs es) ≡ cond (passes gone (find id_cmp q cs)) None (standing q es)) → (g : Bool) → gone c.1 ≡ g → (b : Bool) → same_id q c.0 ≡ b
      → standing q (without_all gone cs (cond g (without c.0 ds) ds)) ≡ cond (passes gone (cond b (Some c.1) (find id_cmp q cs))) None (standing q ds)
  by_test later true p true e =
      later (without c.0 ds) ∙ ap (λ f. cond (passes gone f) None (standing q (without c.0 ds))) (above_all q c cs h e)
      ∙ standing-without q c.0 ds ∙ ap (λ b. cond b None (standing q ds)) e ∙ sym (ap (λ b. cond b None (standing q ds)) p)
  by_test later true p false e = later (without c.0 ds) ∙ ap (cond (passes gone (find id_cmp q cs)) None) (standing-without q c.0 ds ∙ ap (λ b. cond b None (standing q ds)) e)
  by_test later false p true e = later ds ∙ ap (λ f. cond (passes gone f) None (standing q ds)) (above_all q c cs h e) ∙ sym (ap (λ b. cond b None (standing q ds)) p)
  by_test later false p false e = later ds

pub ascending-with_doc : (d : Tree) (ds : List Tree) → ascending ds ≡ true → ascending (with_doc d ds) ≡ true
ascending-with_doc d ds h = ascending-placed (id_of d) (Some d) ds h

ascending-with_all : (es ds : List Tree) → ascending ds ≡ true → ascending (with_all es ds) ≡ true
ascending-with_all [] ds h = h
ascending-with_all (e ∷ es) ds h = ascending-with_all es (with_doc e ds) (ascending-with_doc e ds h)

ascending-without_all : (gone : Sides → Bool) (cs : List Edit) (ds : List Tree) → ascending ds ≡ true → ascending (without_all gone cs ds) ≡ true
ascending-without_all gone [] ds h = h
ascending-without_all gone (c ∷ cs) ds h = ascending-without_all gone cs (cond (gone c.1) (without c.0 ds) ds) (by_test (gone c.1)) where
  by_test : (b : Bool) → ascending (cond b (without c.0 ds) ds) ≡ true
  by_test true = ascending-placed c.0 None ds h
  by_test false = h

steps_at : (f : Option Sides) (now : Option Tree) → cond (passes is_gone f) None (or_now (option_and_then replaced f) (or_now (option_and_then entered f) now)) ≡ after_of f now
steps_at None now = refl
steps_at (Some (None, None)) now = refl
steps_at (Some (None, Some a)) now = refl
steps_at (Some (Some b, None)) now = refl
steps_at (Some (Some b, Some a)) now = refl

-- the three steps are the dataset after the changes
pub three_steps : (ds : List Tree) (cs : List Edit) → ascending ds ≡ true → are_changes cs ≡ true
    → without_all is_gone cs (with_all (picked replaced cs) (with_all (picked entered cs) ds)) ≡ after_changes ds cs
three_steps ds cs h changes =
    let asc : ids_ascend cs ≡ true = and-left _ _ changes in
    let own = own_ids cs changes in
    let one : List Tree = with_all (picked entered cs) ds in
    let two : List Tree = with_all (picked replaced cs) one in
    same_docs (without_all is_gone cs two) (after_changes ds cs)
    (ascending-without_all is_gone cs two (ascending-with_all (picked replaced cs) one (ascending-with_all (picked entered cs) ds h))) (ascending-after_changes ds cs h)
    (λ q. standing-without_all is_gone q cs two asc
    ∙ ap (cond (passes is_gone (find id_cmp q cs)) None) (standing-with_all replaced q cs one asc (own_replaced cs own) ∙ ap (or_now (option_and_then replaced (find id_cmp q cs))) (standing-with_all entered q cs ds asc (own_entered cs own)))
    ∙ steps_at (find id_cmp q cs) (standing q ds) ∙ sym (standing-after_changes q ds cs own))

put_at : (f : Option Sides) → or_now (option_and_then put f) None ≡ after_of f None
put_at None = refl
put_at (Some (b, None)) = refl
put_at (Some (b, Some a)) = refl

-- what is put into the empty dataset is the dataset after the changes
one_step : (cs : List Edit) → are_changes cs ≡ true → with_all (picked put cs) [] ≡ after_changes [] cs
one_step cs changes =
    let own = own_ids cs changes in
    same_docs (with_all (picked put cs) []) (after_changes [] cs) (ascending-with_all (picked put cs) [] refl) (ascending-after_changes [] cs refl)
    (λ q. standing-with_all put q cs [] (and-left _ _ changes) (own_put cs own) ∙ put_at (find id_cmp q cs) ∙ sym (standing-after_changes q [] cs own))

-- ---- the documents that are put are new
below-picked : (pick : Sides → Option Tree) (k : List ℕ) (cs : List Edit) → Owned pick cs → below_all id_cmp k cs ≡ true → below_all id_cmp k (keyed (picked pick cs)) ≡ true
below-picked pick k [] own h = refl
below-picked pick k (c ∷ cs) own h = by_side (below-picked pick k cs own.1 (and-right (is_lt (id_cmp k c.0)) _ h)) (pick c.1) own.0 where
  by_side : below_all id_cmp k (keyed (picked pick cs)) ≡ true → (o : Option Tree) → is_of_id c.0 o ≡ true → below_all id_cmp k (keyed (option_to_list o ++ picked pick cs)) ≡ true
  by_side rest None w = rest
  by_side rest (Some d) w = and_from _ _ (ap (λ y. is_lt (id_cmp k y)) (sym (same_id-same c.0 (id_of d) w)) ∙ and-left _ _ h) rest

pub ascending-picked : (pick : Sides → Option Tree) (cs : List Edit) → ids_ascend cs ≡ true → Owned pick cs → ascending (picked pick cs) ≡ true
ascending-picked pick [] h own = refl
ascending-picked pick (c ∷ cs) h own = by_side (ascending-picked pick cs (and-right (below_all id_cmp c.0 cs) _ h) own.1) (pick c.1) own.0 where
  by_side : ascending (picked pick cs) ≡ true → (o : Option Tree) → is_of_id c.0 o ≡ true → ascending (option_to_list o ++ picked pick cs) ≡ true
  by_side rest None w = rest
  by_side rest (Some d) w =
      and_from _ _ (subst (λ (k : List ℕ). below_all id_cmp k (keyed (picked pick cs)) ≡ true) (same_id-same c.0 (id_of d) w) (below-picked pick c.0 cs own.1 (and-left _ _ h))) rest

-- what changes of the empty dataset put is the dataset after them
with_later : (done ds : List Tree) → ascending (done ++ ds) ≡ true → with_all ds done ≡ done ++ ds
with_later done [] h = sym (append-nil done)
with_later done (d ∷ ds) h =
    ap (with_all ds) (goes_last done d ds h) ∙ with_later (done ++ d ∷ []) ds (ap ascending (append_assoc done (d ∷ []) ds) ∙ h) ∙ append_assoc done (d ∷ []) ds

pub ascending-put : (cs : List Edit) → are_changes cs ≡ true → ascending (picked put cs) ≡ true
ascending-put cs changes = ascending-picked put cs (and-left _ _ changes) (own_put cs (own_ids cs changes))

pub all_put : (cs : List Edit) → are_changes cs ≡ true → picked put cs ≡ after_changes [] cs
all_put cs changes = sym (with_later [] (picked put cs) (ascending-put cs changes)) ∙ one_step cs changes

-- none of the documents has the id of one that stands
abbrev pub AreFree : List Tree → List Tree → Type 0
AreFree docs es = AllByRecursion (λ e. stands (id_of e) docs ≡ false) es

stands-with_doc : (q : List ℕ) (d : Tree) (ds : List Tree) → stands q (with_doc d ds) ≡ cond (same_id q (id_of d)) true (stands q ds)
stands-with_doc q d ds = ap is_some (standing-with_doc q d ds) ∙ by_test (same_id q (id_of d)) where
  by_test : (b : Bool) → is_some (cond b (Some d) (standing q ds)) ≡ cond b true (is_some (standing q ds))
  by_test true = refl
  by_test false = refl

pub free_step : (docs : List Tree) (d : Tree) (es : List Tree) → below_all id_cmp (id_of d) (keyed es) ≡ true → AreFree docs es → AreFree (with_doc d docs) es
free_step docs d [] h f = tt
free_step docs d (e ∷ es) h f = (
  stands-with_doc (id_of e) d docs ∙ ap (λ b. cond b true (stands (id_of e) docs)) (same_id-sym (id_of e) (id_of d) ∙ lower-differs (id_of d) (id_of e) (and-left _ _ h)) ∙ f.0,
  free_step docs d es (and-right (is_lt (id_cmp (id_of d) (id_of e))) _ h) f.1,
)

entered_none : (s : Sides) (d : Tree) → entered s ≡ Some d → s.0 ≡ None
entered_none (None, a) d h = refl
entered_none (Some b, a) d h = cc

pub free-entered : (docs : List Tree) (cs : List Edit) → LeadFrom docs cs → OwnIds cs → AreFree docs (picked entered cs)
free-entered docs [] leads own = tt
free-entered docs (c ∷ cs) leads own = by_side (free-entered docs cs leads.1 own.1) (entered c.1) refl (own_side c.0 (is_some c.1.0) c.1.1 own.0.1) where
  by_side : AreFree docs (picked entered cs) → (o : Option Tree) → entered c.1 ≡ o → is_of_id c.0 o ≡ true → AreFree docs (option_to_list o ++ picked entered cs)
  by_side rest None p w = rest
  by_side rest (Some d) p w =
      (ap (λ k. stands k docs) (sym (same_id-same c.0 (id_of d) w)) ∙ ap is_some (sym leads.0 ∙ entered_none c.1 d p), rest)

-- ---- those that stand under new ids are taken out again
abbrev pub AreNew : List Edit → List Tree → Type 0
AreNew cs es = AllByRecursion (λ e. passes is_new (find id_cmp (id_of e) cs) ≡ true) es

entered_new : (s : Sides) (d : Tree) → entered s ≡ Some d → is_new s ≡ true
entered_new (None, a) d h = refl
entered_new (Some b, a) d h = cc

new-entered-in : (all cs : List Edit) → AreFoundIn all cs → OwnIds cs → AreNew all (picked entered cs)
new-entered-in all [] found own = tt
new-entered-in all (c ∷ cs) found own = by_side (new-entered-in all cs found.1 own.1) (entered c.1) refl (own_side c.0 (is_some c.1.0) c.1.1 own.0.1) where
  by_side : AreNew all (picked entered cs) → (o : Option Tree) → entered c.1 ≡ o → is_of_id c.0 o ≡ true → AreNew all (option_to_list o ++ picked entered cs)
  by_side rest None p w = rest
  by_side rest (Some d) p w =
      (ap (λ k. passes is_new (find id_cmp k all)) (sym (same_id-same c.0 (id_of d) w)) ∙ ap (passes is_new) found.0 ∙ entered_new c.1 d p, rest)

pub new-entered : (cs : List Edit) → are_changes cs ≡ true → AreNew cs (picked entered cs)
new-entered cs changes = new-entered-in cs cs (each_found cs (and-left _ _ changes)) (own_ids cs changes)

-- only under new ids stands another
abbrev pub KeepsOthers : List Edit → List Tree → List Tree → Type 0
KeepsOthers cs old now = (q : List ℕ) → passes is_new (find id_cmp q cs) ≡ false → standing q now ≡ standing q old

pub others_step : (cs : List Edit) (old now : List Tree) (d : Tree) → passes is_new (find id_cmp (id_of d) cs) ≡ true → KeepsOthers cs old now → KeepsOthers cs old (with_doc d now)
others_step cs old now d new keeps q h = standing-with_doc q d now ∙ by_test (same_id q (id_of d)) refl where
  by_test : (b : Bool) → same_id q (id_of d) ≡ b → cond b (Some d) (standing q now) ≡ standing q old
  by_test true e = absurd (let k : passes is_new (find id_cmp q cs) ≡ true = ap (λ z. passes is_new (find id_cmp z cs)) (same_id-same q (id_of d) e) ∙ new in cc)
  by_test false e = keeps q h

lead_at : (q : List ℕ) (docs : List Tree) (cs : List Edit) (s : Sides) → LeadFrom docs cs → find id_cmp q cs ≡ Some s → s.0 ≡ standing q docs
lead_at q docs [] s leads h = absurd (cc)
lead_at q docs (c ∷ cs) s leads h = by_test (lead_at q docs cs s leads.1) (same_id q c.0) refl h where
  by_test : (find id_cmp q cs ≡ Some s → s.0 ≡ standing q docs) → (b : Bool) → same_id q c.0 ≡ b → cond b (Some c.1) (find id_cmp q cs) ≡ Some s → s.0 ≡ standing q docs
  by_test rest true e g = let k : c.1 ≡ s = cc in sym (ap (λ (t : Sides). t.0) k) ∙ leads.0 ∙ ap (λ z. standing z docs) (sym (same_id-same q c.0 e))
  by_test rest false e g = rest g

not_there : (o : Option Tree) → not (is_some o) ≡ true → o ≡ None
not_there None h = refl
not_there (Some d) h = cc

pub left_again : (cs : List Edit) (old now : List Tree) → ascending old ≡ true → ascending now ≡ true → ids_ascend cs ≡ true → LeadFrom old cs → KeepsOthers cs old now → without_all is_new cs now ≡ old
left_again cs old now h g asc leads keeps =
    same_docs (without_all is_new cs now) old (ascending-without_all is_new cs now g) h (λ q. standing-without_all is_new q cs now asc ∙ by_side q (find id_cmp q cs) refl) where
      by_new : (q : List ℕ) (s : Sides) → find id_cmp q cs ≡ Some s → (b : Bool) → is_new s ≡ b → cond b None (standing q now) ≡ standing q old
      by_new q s f true e = sym (not_there s.0 e) ∙ lead_at q old cs s leads f
      by_new q s f false e = keeps q (ap (passes is_new) f ∙ e)

      by_side : (q : List ℕ) (f : Option Sides) → find id_cmp q cs ≡ f → cond (passes is_new f) None (standing q now) ≡ standing q old
      by_side q None f = keeps q (ap (passes is_new) f)
      by_side q (Some s) f = by_new q s f (is_new s) refl

-- ---- those that are replaced stand
abbrev pub AllStand : List Tree → List Tree → Type 0
AllStand docs es = AllByRecursion (λ e. stands (id_of e) docs ≡ true) es

still_stands : (q : List ℕ) (d : Tree) (ds : List Tree) → stands q ds ≡ true → stands q (with_doc d ds) ≡ true
still_stands q d ds h = stands-with_doc q d ds ∙ by_test (same_id q (id_of d)) where
  by_test : (b : Bool) → cond b true (stands q ds) ≡ true
  by_test true = refl
  by_test false = h

stands-with_all : (q : List ℕ) (es ds : List Tree) → stands q ds ≡ true → stands q (with_all es ds) ≡ true
stands-with_all q [] ds h = h
stands-with_all q (e ∷ es) ds h = stands-with_all q es (with_doc e ds) (still_stands q e ds h)

pub stand_step : (docs : List Tree) (d : Tree) (es : List Tree) → AllStand docs es → AllStand (with_doc d docs) es
stand_step docs d [] h = tt
stand_step docs d (e ∷ es) h = (still_stands (id_of e) d docs h.0, stand_step docs d es h.1)

replaced_some : (s : Sides) (d : Tree) → replaced s ≡ Some d → is_some s.0 ≡ true
replaced_some (None, a) d h = cc
replaced_some (Some b, a) d h = refl

pub stand-replaced : (es docs : List Tree) (cs : List Edit) → LeadFrom docs cs → OwnIds cs → AllStand (with_all es docs) (picked replaced cs)
stand-replaced es docs [] leads own = tt
stand-replaced es docs (c ∷ cs) leads own = by_side (stand-replaced es docs cs leads.1 own.1) (replaced c.1) refl (own_side' c.0 (is_some c.1.0) c.1.1 own.0.1) where
  by_side : AllStand (with_all es docs) (picked replaced cs) → (o : Option Tree) → replaced c.1 ≡ o → is_of_id c.0 o ≡ true → AllStand (with_all es docs) (option_to_list o ++ picked replaced cs)
  by_side rest None p w = rest
  by_side rest (Some d) p w =
      (stands-with_all (id_of d) es docs (ap (λ k. stands k docs) (sym (same_id-same c.0 (id_of d) w)) ∙ ap is_some (sym leads.0) ∙ replaced_some c.1 d p), rest)

-- ---- a dataset that a store can hold
pub fits-clean : (docs : List Tree) → verdict docs ≡ fits → clean docs ≡ true
fits-clean docs h = ((fits-within-clean docs).0 h).1

pub fits-within : (docs : List Tree) → verdict docs ≡ fits → length docs ≤ most_documents
fits-within docs h = ((fits-within-clean docs).0 h).0

pub on_holding : {A E : Type 0} (r : Result A E) (old now : List Tree) (cs : List Edit) → OnOk r (now ≡ after_changes old cs) → OnErr r (now ≡ old) → AreTaken old cs → clean old ≡ true → length old ≤ most_documents
    → (clean now ≡ true) × (length now ≤ most_documents)
on_holding (Ok a) old now cs is same taken c w =
    (ap clean is ∙ fits-clean (after_changes old cs) taken.holds, subst (λ (ds : List Tree). length ds ≤ most_documents) (sym is) (fits-within (after_changes old cs) taken.holds))
on_holding (Err e) old now cs is same taken c w = (ap clean same ∙ c, subst (λ (ds : List Tree). length ds ≤ most_documents) (sym same) w)
