-- The laws of changes.
use Rattle.std.proofs.Common.{◌≡◌, ℕ, List, [], ◌∷◌, Bool, true, false, ◌&&◌, cond, Option, Some, None, refl, sym, ap, ◌∙◌}
use Rattle.std.specs.List.{list_all, AllByRecursion}
use Rattle.std.specs.Ordering.{is_lt}
use Rattle.std.proofs.lemmas.Cmp.{nat_list_cmp_total}
use Rattle.std.proofs.lemmas.Map.Lookups.{exact_bytes}
use Rattle.std.specs.FinMap.Entries.{find, below_all, same_entries}
use Rattle.std.proofs.lemmas.Bool.{and_from}
use Rattle.cs_value.specs.Tree.{Tree}
use Rattle.cs_view.specs.Dataset.{id_cmp, same_id, standing, ascending, is_dataset}
use Rattle.cs_view.specs.Changes.{Edit, ids_ascend, is_of_id, are_changes, is_document_or_none, are_documents, LeadFrom, LeadTo, before_changes, after_changes, before_of, after_of, IsChangeAt, AreChangesBetween}
use Rattle.cs_view.proofs.Booleans.{and-left, and-right, to_T}
use Rattle.cs_view.proofs.Datasets.{same_id-same, same_id-refl, same_id-sym, lower-differs, standing-placed, ascending-placed, dataset-placed, same_docs, standing-is_of_id}

abbrev pub OwnIds : List Edit → Type 0
OwnIds cs = AllByRecursion (λ c. (is_of_id c.0 c.1.0 ≡ true) × (is_of_id c.0 c.1.1 ≡ true)) cs

own_list : (cs : List Edit) → list_all (λ c. is_of_id c.0 c.1.0 && is_of_id c.0 c.1.1) cs ≡ true → OwnIds cs
own_list [] h = tt
own_list (c ∷ cs) h =
    let here = and-left _ _ h in
    ((and-left _ _ here, and-right (is_of_id c.0 c.1.0) _ here), own_list cs (and-right (is_of_id c.0 c.1.0 && is_of_id c.0 c.1.1) _ h))

pub own_ids : (cs : List Edit) → are_changes cs ≡ true → OwnIds cs
own_ids cs h = own_list cs (and-right (ids_ascend cs) _ h)

list_own : (cs : List Edit) → OwnIds cs → list_all (λ c. is_of_id c.0 c.1.0 && is_of_id c.0 c.1.1) cs ≡ true
list_own [] h = refl
list_own (c ∷ cs) h = and_from _ _ (and_from _ _ h.0.0 h.0.1) (list_own cs h.1)

before_step : (b : Bool) (s : Option Tree × Option Tree) (f : Option (Option Tree × Option Tree)) (x o : Option Tree) → x ≡ before_of f o → cond b s.0 x ≡ before_of (cond b (Some s) f) o
before_step true s f x o h = refl
before_step false s f x o h = h

after_step : (b : Bool) (s : Option Tree × Option Tree) (f : Option (Option Tree × Option Tree)) (x o : Option Tree) → x ≡ after_of f o → cond b s.1 x ≡ after_of (cond b (Some s) f) o
after_step true s f x o h = refl
after_step false s f x o h = h

pub standing-before_changes : (q : List ℕ) (docs : List Tree) (cs : List Edit) → OwnIds cs → standing q (before_changes docs cs) ≡ before_of (find id_cmp q cs) (standing q docs)
standing-before_changes q docs [] own = refl
standing-before_changes q docs (c ∷ cs) own = standing-placed q c.0 c.1.0 (before_changes docs cs) own.0.0 ∙ before_step (same_id q c.0) c.1 (find id_cmp q cs) (standing q (before_changes docs cs)) (standing q docs) (standing-before_changes q docs cs own.1)

pub standing-after_changes : (q : List ℕ) (docs : List Tree) (cs : List Edit) → OwnIds cs → standing q (after_changes docs cs) ≡ after_of (find id_cmp q cs) (standing q docs)
standing-after_changes q docs [] own = refl
standing-after_changes q docs (c ∷ cs) own = standing-placed q c.0 c.1.1 (after_changes docs cs) own.0.1 ∙ after_step (same_id q c.0) c.1 (find id_cmp q cs) (standing q (after_changes docs cs)) (standing q docs) (standing-after_changes q docs cs own.1)

pub ascending-before_changes : (docs : List Tree) (cs : List Edit) → ascending docs ≡ true → ascending (before_changes docs cs) ≡ true
ascending-before_changes docs [] h = h
ascending-before_changes docs (c ∷ cs) h = ascending-placed c.0 c.1.0 (before_changes docs cs) (ascending-before_changes docs cs h)

pub ascending-after_changes : (docs : List Tree) (cs : List Edit) → ascending docs ≡ true → ascending (after_changes docs cs) ≡ true
ascending-after_changes docs [] h = h
ascending-after_changes docs (c ∷ cs) h = ascending-placed c.0 c.1.1 (after_changes docs cs) (ascending-after_changes docs cs h)

pub dataset-before_changes : (docs : List Tree) (cs : List Edit) → is_dataset docs ≡ true → are_documents cs ≡ true → is_dataset (before_changes docs cs) ≡ true
dataset-before_changes docs [] h g = h
dataset-before_changes docs (c ∷ cs) h g =
    dataset-placed c.0 c.1.0 (before_changes docs cs) (and-left _ _ (and-left _ _ g)) (dataset-before_changes docs cs h (and-right (is_document_or_none c.1.0 && is_document_or_none c.1.1) _ g))

pub dataset-after_changes : (docs : List Tree) (cs : List Edit) → is_dataset docs ≡ true → are_documents cs ≡ true → is_dataset (after_changes docs cs) ≡ true
dataset-after_changes docs [] h g = h
dataset-after_changes docs (c ∷ cs) h g =
    dataset-placed c.0 c.1.1 (after_changes docs cs) (and-right (is_document_or_none c.1.0) _ (and-left _ _ g)) (dataset-after_changes docs cs h (and-right (is_document_or_none c.1.0 && is_document_or_none c.1.1) _ g))

-- changes that lead on say what the dataset holds before
before-now : (q : List ℕ) (docs : List Tree) (cs : List Edit) → LeadFrom docs cs → before_of (find id_cmp q cs) (standing q docs) ≡ standing q docs
before-now q docs [] leads = refl
before-now q docs (c ∷ cs) leads =
    elim (same_id q c.0) as (λ b. same_id q c.0 ≡ b → before_of (cond b (Some c.1) (find id_cmp q cs)) (standing q docs) ≡ standing q docs) [
      | true ↦ λ h. leads.0 ∙ ap (λ k. standing k docs) (sym (same_id-same q c.0 h))
      | false ↦ λ h. before-now q docs cs leads.1
    ] refl

pub before_changes-now : (docs : List Tree) (cs : List Edit) → ascending docs ≡ true → OwnIds cs → LeadFrom docs cs → before_changes docs cs ≡ docs
before_changes-now docs cs h own leads = same_docs (before_changes docs cs) docs (ascending-before_changes docs cs h) h (λ q. standing-before_changes q docs cs own ∙ before-now q docs cs leads)

before-after : (f : Option (Option Tree × Option Tree)) (now : Option Tree) → before_of f (after_of f now) ≡ before_of f now
before-after None now = refl
before-after (Some s) now = refl

pub before_changes-after_changes : (docs : List Tree) (cs : List Edit) → ascending docs ≡ true → OwnIds cs → LeadFrom docs cs → before_changes (after_changes docs cs) cs ≡ docs
before_changes-after_changes docs cs h own leads =
    same_docs (before_changes (after_changes docs cs) cs) docs (ascending-before_changes (after_changes docs cs) cs (ascending-after_changes docs cs h)) h
    (λ q. standing-before_changes q (after_changes docs cs) cs own ∙ ap (before_of (find id_cmp q cs)) (standing-after_changes q docs cs own) ∙ before-after (find id_cmp q cs) (standing q docs) ∙ before-now q docs cs leads)

-- each change is found under its id
abbrev pub AreFoundIn : List Edit → List Edit → Type 0
AreFoundIn all cs = AllByRecursion (λ c. find id_cmp c.0 all ≡ Some c.1) cs

later_found : (c : Edit) (all cs : List Edit) → below_all id_cmp c.0 cs ≡ true → AreFoundIn all cs → AreFoundIn (c ∷ all) cs
later_found c all [] b f = tt
later_found c all (e ∷ es) b f =
    (ap (λ t. cond t (Some c.1) (find id_cmp e.0 all)) (same_id-sym e.0 c.0 ∙ lower-differs c.0 e.0 (and-left _ _ b)) ∙ f.0, later_found c all es (and-right (is_lt (id_cmp c.0 e.0)) _ b) f.1)

pub each_found : (cs : List Edit) → ids_ascend cs ≡ true → AreFoundIn cs cs
each_found [] h = tt
each_found (c ∷ cs) h =
    (ap (λ t. cond t (Some c.1) (find id_cmp c.0 cs)) (same_id-refl c.0), later_found c cs cs (and-left _ _ h) (each_found cs (and-right (below_all id_cmp c.0 cs) _ h)))

leading : (docs : List Tree) (all cs : List Edit) → ((q : List ℕ) → standing q (after_changes docs all) ≡ after_of (find id_cmp q all) (standing q docs)) → AreFoundIn all cs → LeadTo (after_changes docs all) cs
leading docs all [] h f = tt
leading docs all (c ∷ cs) h f = (sym (h c.0 ∙ ap (λ s. after_of s (standing c.0 docs)) f.0), leading docs all cs h f.1)

pub after_changes-leads : (docs : List Tree) (cs : List Edit) → are_changes cs ≡ true → LeadTo (after_changes docs cs) cs
after_changes-leads docs cs h = leading docs cs cs (λ q. standing-after_changes q docs cs (own_ids cs h)) (each_found cs (and-left _ _ h))

-- changes that lead back say what the dataset holds after
after-now : (q : List ℕ) (docs : List Tree) (cs : List Edit) → LeadTo docs cs
    → after_of (find id_cmp q cs) (standing q docs) ≡ standing q docs
after-now q docs [] leads = refl
after-now q docs (c ∷ cs) leads =
    elim (same_id q c.0) as (λ b. same_id q c.0 ≡ b → after_of (cond b (Some c.1) (find id_cmp q cs)) (standing q docs) ≡ standing q docs) [
      | true ↦ λ h. leads.0 ∙ ap (λ k. standing k docs) (sym (same_id-same q c.0 h))
      | false ↦ λ h. after-now q docs cs leads.1
    ] refl

pub after_changes-now : (docs : List Tree) (cs : List Edit) → ascending docs ≡ true → OwnIds cs
    → LeadTo docs cs → after_changes docs cs ≡ docs
after_changes-now docs cs h own leads =
    same_docs (after_changes docs cs) docs (ascending-after_changes docs cs h) h
    (λ q. standing-after_changes q docs cs own ∙ after-now q docs cs leads)

after-before : (f : Option (Option Tree × Option Tree)) (now : Option Tree)
    → after_of f (before_of f now) ≡ after_of f now
after-before None now = refl
after-before (Some s) now = refl

pub after_changes-before_changes : (docs : List Tree) (cs : List Edit) → ascending docs ≡ true → OwnIds cs
    → LeadTo docs cs → after_changes (before_changes docs cs) cs ≡ docs
after_changes-before_changes docs cs h own leads =
    same_docs (after_changes (before_changes docs cs) cs) docs
    (ascending-after_changes (before_changes docs cs) cs (ascending-before_changes docs cs h)) h
    (λ q. standing-after_changes q (before_changes docs cs) cs own
    ∙ ap (after_of (find id_cmp q cs)) (standing-before_changes q docs cs own)
    ∙ after-before (find id_cmp q cs) (standing q docs) ∙ after-now q docs cs leads)

leading-from : (docs : List Tree) (all cs : List Edit)
    → ((q : List ℕ) → standing q (before_changes docs all) ≡ before_of (find id_cmp q all) (standing q docs))
    → AreFoundIn all cs → LeadFrom (before_changes docs all) cs
leading-from docs all [] h f = tt
leading-from docs all (c ∷ cs) h f =
    (sym (h c.0 ∙ ap (λ s. before_of s (standing c.0 docs)) f.0), leading-from docs all cs h f.1)

pub before_changes-leads : (docs : List Tree) (cs : List Edit) → are_changes cs ≡ true
    → LeadFrom (before_changes docs cs) cs
before_changes-leads docs cs h =
    leading-from docs cs cs (λ q. standing-before_changes q docs cs (own_ids cs h))
    (each_found cs (and-left _ _ h))

pub standing-in_a_row : (q : List ℕ) (docs : List Tree) (cs es : List Edit) → OwnIds cs → OwnIds es
    → standing q (after_changes (after_changes docs cs) es)
    ≡ after_of (find id_cmp q es) (after_of (find id_cmp q cs) (standing q docs))
standing-in_a_row q docs cs es own also =
    standing-after_changes q (after_changes docs cs) es also
    ∙ ap (after_of (find id_cmp q es)) (standing-after_changes q docs cs own)

-- ---- the changes between two datasets
between_at : (b a : Option Tree) (f : Option (Option Tree × Option Tree)) (s : Option Tree × Option Tree) → IsChangeAt b a f → f ≡ Some s → s ≡ (b, a)
between_at b a None s h is = absurd (cc)
between_at b a (Some t) s h is = let e : t ≡ s = cc in sym e ∙ h.1

abbrev Sides : List Tree → List Tree → List Edit → Type 0
Sides one other cs = AllByRecursion (λ c. c.1 ≡ (standing c.0 one, standing c.0 other)) cs

between_sides : (one other : List Tree) (all cs : List Edit) → ((q : List ℕ) → IsChangeAt (standing q one) (standing q other) (find id_cmp q all)) → AreFoundIn all cs → Sides one other cs
between_sides one other all [] h f = tt
between_sides one other all (c ∷ cs) h f = (between_at (standing c.0 one) (standing c.0 other) (find id_cmp c.0 all) c.1 (h c.0) f.0, between_sides one other all cs h f.1)

sides_lead : (one other : List Tree) (cs : List Edit) → Sides one other cs → LeadFrom one cs
sides_lead one other [] s = tt
sides_lead one other (c ∷ cs) s = (ap (λ (p : Option Tree × Option Tree). p.0) s.0, sides_lead one other cs s.1)

sides_own : (one other : List Tree) (cs : List Edit) → Sides one other cs → OwnIds cs
sides_own one other [] s = tt
sides_own one other (c ∷ cs) s =
    ((standing-is_of_id c.0 one c.1.0 (sym (ap (λ (p : Option Tree × Option Tree). p.0) s.0)), standing-is_of_id c.0 other c.1.1 (sym (ap (λ (p : Option Tree × Option Tree). p.1) s.0))), sides_own one other cs s.1)

between_after : (b a : Option Tree) (f : Option (Option Tree × Option Tree)) → IsChangeAt b a f → after_of f b ≡ a
between_after b a None h = h
between_after b a (Some s) h = ap (λ (p : Option Tree × Option Tree). p.1) h.1

pub between-lead : (one other : List Tree) (cs : List Edit) → ascending one ≡ true → ascending other ≡ true → AreChangesBetween one other cs
    → (are_changes cs ≡ true) × LeadFrom one cs × (after_changes one cs ≡ other)
between-lead one other cs g h between =
    let sides : Sides one other cs = between_sides one other cs cs between.1 (each_found cs between.0) in
    let own : OwnIds cs = sides_own one other cs sides in (
      and_from _ _ between.0 (list_own cs own),
      sides_lead one other cs sides,
      same_docs (after_changes one cs) other (ascending-after_changes one cs g) h (λ q. standing-after_changes q one cs own ∙ between_after (standing q one) (standing q other) (find id_cmp q cs) (between.1 q)),
    )

one_change : (b a : Option Tree) (f g : Option (Option Tree × Option Tree)) → IsChangeAt b a f → IsChangeAt b a g → f ≡ g
one_change b a None None h k = refl
one_change b a None (Some t) h k = absurd (k.0 h)
one_change b a (Some s) None h k = absurd (h.0 k)
one_change b a (Some s) (Some t) h k = ap (λ (p : Option Tree × Option Tree). Some p) (h.1 ∙ sym k.1)

pub between-one : (one other : List Tree) (cs es : List Edit) → AreChangesBetween one other cs → AreChangesBetween one other es → cs ≡ es
between-one one other cs es h k =
    same_entries id_cmp nat_list_cmp_total (λ a b e. exact_bytes a b e) cs es (to_T _ h.0) (to_T _ k.0) (λ q. one_change (standing q one) (standing q other) (find id_cmp q cs) (find id_cmp q es) (h.1 q) (k.1 q))
