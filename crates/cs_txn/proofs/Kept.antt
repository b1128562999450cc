-- Mutations lead from datasets to datasets.
use Rattle.std.proofs.Common.{◌≡◌, ℕ, ◌+◌, ◌≤◌, List, [], ◌∷◌, length, Bool, true, false, cond, Option, Some, None, Result, Ok, Err, refl, subst}
use Rattle.std.specs.List.{list_all}
use Rattle.cs_value.specs.Tree.{Tree}
use Rattle.cs_view.specs.Document.{is_document, is_body, is_shallow, id_of}
use Rattle.cs_view.specs.Dataset.{standing, same_id, ascending, is_dataset, stands, with_doc, without}
use Rattle.cs_view.proofs.Booleans.{and-left, and-right}
use Rattle.cs_view.proofs.Datasets.{dataset-placed}
use Rattle.cs_docs.specs.Limits.{most_documents}
use Rattle.cs_docs.specs.References.{clean}
use Rattle.cs_docs.specs.Verdict.{Verdict, fits, full, dangles, verdict}
use Rattle.cs_docs.specs.Laws.{FitsWithinAndClean}
use Rattle.cs_patch.specs.Laws.{PatchedIsADocument}
use Rattle.cs_patch.specs.Operations as patch
use Rattle.cs_patch.specs.Patched.{Patch, paths, first_fault, patched}
use Rattle.cs_body.specs.Transaction.{Aim, one, asked, Action, create, replace, if_none, remove, change, Transaction}
use Rattle.cs_txn.specs.Refused.{Cause, bad_document, deep_document, exists, diff, Outcome}
use Rattle.cs_txn.specs.Install.{entered, with_made_id}
use Rattle.cs_txn.specs.Mutated.{Attempt, and_then, installed, created, replaced, kept_or_created, without_all, deleted, cause_of, by_outcome, patched_there, patched_at, patched_all, patched_by, by_fault, edited, done, at_index, mutated, found}
use Rattle.cs_txn.specs.Commit.{and_then as commit_then, folded, held, commit}
use Rattle.cs_txn.proofs.Bodies.{entered-document}

-- ---- datasets
put-dataset : (d : Tree) (docs : List Tree) → is_document d ≡ true → is_dataset docs ≡ true
    → is_dataset (with_doc d docs) ≡ true
put-dataset d docs h g = dataset-placed (id_of d) (Some d) docs h g

without-dataset : (id : List ℕ) (docs : List Tree) → is_dataset docs ≡ true
    → is_dataset (without id docs) ≡ true
without-dataset id docs g = dataset-placed id None docs refl g

found_document : (id : List ℕ) (docs : List Tree) (d : Tree) → list_all is_document docs ≡ true
    → standing id docs ≡ Some d → is_document d ≡ true
found_document id [] d h e = absurd cc
found_document id (x ∷ xs) d h e =
    elim (same_id id (id_of x)) as (λ b. cond b (Some x) (standing id xs) ≡ Some d → is_document d ≡
    true) [
      | true ↦ λ g. let same : x ≡ d = cc in
          subst (λ u. is_document u ≡ true) same (and-left (is_document x) (list_all is_document
          xs) h)
      | false ↦ λ g. found_document id xs d (and-right (is_document x) (list_all is_document xs)
          h) g
    ] e

-- ---- one mutation
-- what is tried leads to a dataset, where it leads to anything
abbrev Leads : Attempt → Type 0
Leads r = (after : List Tree) → r ≡ Ok after → is_dataset after ≡ true

ok-leads : (docs : List Tree) → is_dataset docs ≡ true → Leads (Ok docs)
ok-leads docs h after e = let same : docs ≡ after = cc in subst (λ ds. is_dataset ds ≡ true) same h

err-leads : (cause : Cause) → Leads (Err cause)
err-leads cause after e = absurd cc

either-leads : (b : Bool) (r s : Attempt) → Leads r → Leads s → Leads (cond b r s)
either-leads true r s g h = g
either-leads false r s g h = h

installed_by : (b c : Bool) (next : Attempt)
    → (b ≡ true → c ≡ true → Leads next)
    → Leads (cond b (cond c next (Err deep_document)) (Err bad_document))
installed_by true true next h = h refl refl
installed_by true false next h = err-leads deep_document
installed_by false c next h = err-leads bad_document

installed-leads : (next : Tree → Attempt) (t : Tree)
    → (is_body t ≡ true → is_shallow t ≡ true → Leads (next t)) → Leads (installed next t)
installed-leads next t h = installed_by (is_body t) (is_shallow t) (next t) h

entered-leads : (t : Tree) (tx moment : List ℕ) (docs : List Tree) → is_dataset docs ≡ true
    → is_body t ≡ true → is_shallow t ≡ true → Leads (Ok (with_doc (entered tx moment t) docs))
entered-leads t tx moment docs g body shallow =
    ok-leads (with_doc (entered tx moment t) docs)
    (put-dataset (entered tx moment t) docs (entered-document tx moment t body shallow).0 g)

created-leads : (tx moment : List ℕ) (docs : List Tree) (t : Tree) → is_dataset docs ≡ true
    → is_body t ≡ true → is_shallow t ≡ true → Leads (created tx moment docs t)
created-leads tx moment docs t g body shallow =
    either-leads (stands (id_of t) docs) (Err (exists (id_of t)))
    (Ok (with_doc (entered tx moment t) docs)) (err-leads (exists (id_of t)))
    (entered-leads t tx moment docs g body shallow)

kept_ok : (b : Bool) (left right : List Tree) → Leads (Ok left) → Leads (Ok right)
    → Leads (Ok (cond b left right))
kept_ok true left right g h = g
kept_ok false left right g h = h

kept-leads : (tx moment : List ℕ) (docs : List Tree) (t : Tree) → is_dataset docs ≡ true
    → is_body t ≡ true → is_shallow t ≡ true → Leads (kept_or_created tx moment docs t)
kept-leads tx moment docs t g body shallow =
    kept_ok (stands (id_of t) docs) docs (with_doc (entered tx moment t) docs) (ok-leads docs g)
    (entered-leads t tx moment docs g body shallow)

without_all-dataset : (ids : List (List ℕ)) (docs : List Tree) → is_dataset docs ≡ true
    → is_dataset (without_all ids docs) ≡ true
without_all-dataset [] docs g = g
without_all-dataset (id ∷ ids) docs g =
    without_all-dataset ids (without id docs) (without-dataset id docs g)

then-leads : {A : Type 0} (f : A → Attempt) (r : Result A Cause) → ((a : A) → Leads (f a))
    → Leads (and_then f r)
then-leads f (Ok a) h = h a
then-leads f (Err cause) h = err-leads cause

deleted-leads : (docs : List Tree) (aim : Aim) → is_dataset docs ≡ true → Leads (deleted docs aim)
deleted-leads docs (one id) g = ok-leads (without id docs) (without-dataset id docs g)
deleted-leads docs (asked s params) g =
    then-leads (λ ids. Ok (without_all ids docs)) (found docs s params)
    (λ ids. ok-leads (without_all ids docs) (without_all-dataset ids docs g))

outcome-leads : (id : List ℕ) (docs : List Tree) (o : patch.Outcome) → is_dataset docs ≡ true
    → ((e : Tree) → o ≡ patch.document e → is_document e ≡ true) → Leads (by_outcome id docs o)
outcome-leads id docs (patch.document e) g h =
    ok-leads (with_doc e docs) (put-dataset e docs (h e refl) g)
outcome-leads id docs (patch.refused r) g h = err-leads (cause_of id r)

there-leads : PatchedIsADocument → (p : Patch) (tx moment : List ℕ) (docs : List Tree) (id : List
    ℕ)
    → is_dataset docs ≡ true → (o : Option Tree) → standing id docs ≡ o
    → Leads (patched_there p tx moment docs id o)
there-leads law p tx moment docs id g None h = err-leads _
there-leads law p tx moment docs id g (Some d) h =
    outcome-leads id docs (patched p d tx moment) g
    (λ e is. (law p d e tx moment
    (found_document id docs d (and-right (ascending docs) (list_all is_document docs) g) h)
    is).0)

patched-leads : PatchedIsADocument → (p : Patch) (tx moment id : List ℕ) (docs : List Tree)
    → is_dataset docs ≡ true → Leads (patched_at p tx moment id docs)
patched-leads law p tx moment id docs g =
    there-leads law p tx moment docs id g (standing id docs) refl

step-leads : (f : List Tree → Attempt) (r : Attempt) → Leads r
    → ((docs : List Tree) → is_dataset docs ≡ true → Leads (f docs)) → Leads (and_then f r)
step-leads f (Ok docs) g h = h docs (g docs refl)
step-leads f (Err cause) g h = err-leads cause

all-leads : PatchedIsADocument → (p : Patch) (tx moment : List ℕ) (ids : List (List ℕ))
    (docs : List Tree) → is_dataset docs ≡ true → Leads (patched_all p tx moment ids docs)
all-leads law p tx moment [] docs g = ok-leads docs g
all-leads law p tx moment (id ∷ ids) docs g =
    step-leads (patched_all p tx moment ids) (patched_at p tx moment id docs)
    (patched-leads law p tx moment id docs g) (all-leads law p tx moment ids)

aimed-leads : PatchedIsADocument → (p : Patch) (tx moment : List ℕ) (docs : List Tree) (aim : Aim)
    → is_dataset docs ≡ true → Leads (patched_by p tx moment docs aim)
aimed-leads law p tx moment docs (one id) g = patched-leads law p tx moment id docs g
aimed-leads law p tx moment docs (asked s params) g =
    then-leads (λ ids. patched_all p tx moment ids docs) (found docs s params)
    (λ ids. all-leads law p tx moment ids docs g)

fault-leads : (next : Attempt) (o : Option patch.Refusal) → Leads next → Leads (by_fault next o)
fault-leads next None h = h
fault-leads next (Some r) h = err-leads (cause_of [] r)

edited-leads : PatchedIsADocument → (tx moment : List ℕ) (docs : List Tree) (aim : Aim) (p : Patch)
    (has_diff : Bool) → is_dataset docs ≡ true → Leads (edited tx moment docs aim p has_diff)
edited-leads law tx moment docs aim p has_diff g =
    either-leads has_diff (Err diff)
    (by_fault (patched_by p tx moment docs aim) (first_fault (paths p))) (err-leads diff)
    (fault-leads (patched_by p tx moment docs aim) (first_fault (paths p))
    (aimed-leads law p tx moment docs aim g))

done-leads : PatchedIsADocument → (tx moment : List ℕ) (index : ℕ) (docs : List Tree) (m : Action)
    → is_dataset docs ≡ true → Leads (done tx moment index docs m)
done-leads law tx moment index docs (create t) g =
    installed-leads (created tx moment docs) (with_made_id tx index t)
    (created-leads tx moment docs (with_made_id tx index t) g)
done-leads law tx moment index docs (replace t) g =
    installed-leads (replaced tx moment docs) t (entered-leads t tx moment docs g)
done-leads law tx moment index docs (if_none t) g =
    installed-leads (kept_or_created tx moment docs) t (kept-leads tx moment docs t g)
done-leads law tx moment index docs (remove aim) g = deleted-leads docs aim g
done-leads law tx moment index docs (change aim p has_diff) g =
    edited-leads law tx moment docs aim p has_diff g

-- ---- the transaction
abbrev Comes : Outcome → Type 0
Comes o = (after : List Tree) → o ≡ Ok after → is_dataset after ≡ true

index-comes : (index : ℕ) (r : Attempt) → Leads r → Comes (at_index index r)
index-comes index (Ok docs) h after e = let same : docs ≡ after = cc in
    subst (λ ds. is_dataset ds ≡ true) same (h docs refl)
index-comes index (Err cause) h after e = absurd cc

fold-comes : (f : List Tree → Outcome) (o : Outcome) → Comes o
    → ((docs : List Tree) → is_dataset docs ≡ true → Comes (f docs)) → Comes (commit_then f o)
fold-comes f (Ok docs) g h = h docs (g docs refl)
fold-comes f (Err r) g h = λ after e. absurd cc

folded-comes : PatchedIsADocument → (tx moment : List ℕ) (index : ℕ) (ms : List Action)
    (docs : List Tree) → is_dataset docs ≡ true → Comes (folded tx moment index ms docs)
folded-comes law tx moment index [] docs g = λ after e.
    let same : docs ≡ after = cc in subst (λ ds. is_dataset ds ≡ true) same g
folded-comes law tx moment index (m ∷ ms) docs g =
    fold-comes (folded tx moment (index + 1) ms) (mutated tx moment index docs m)
    (index-comes index (done tx moment index docs m) (done-leads law tx moment index docs m g))
    (folded-comes law tx moment (index + 1) ms)

held_is : (docs after : List Tree) (v : Verdict) → held docs v ≡ Ok after
    → (docs ≡ after) × (v ≡ fits)
held_is docs after fits e = (cc, refl)
held_is docs after full e = absurd cc
held_is docs after (dangles from to) e = absurd cc

-- a dataset that a store can hold
abbrev Held : List Tree → Type 0
Held docs = (is_dataset docs ≡ true) × (clean docs ≡ true) × (length docs ≤ most_documents)

judged : FitsWithinAndClean → (o : Outcome) → Comes o → (after : List Tree)
    → commit_then (λ d. held d (verdict d)) o ≡ Ok after → Held after
judged law (Ok docs) g after e =
    let h = held_is docs after (verdict docs) e in
    let f = (law docs).0 h.1 in
    subst Held h.0 (g docs refl, f.1, f.0)
judged law (Err r) g after e = absurd cc

pub commit-held : PatchedIsADocument → FitsWithinAndClean → (txn : Transaction) (moment : List ℕ)
    (docs after : List Tree) → is_dataset docs ≡ true → commit txn moment docs ≡ Ok after
    → (is_dataset after ≡ true) × (clean after ≡ true) × (length after ≤ most_documents)
commit-held law fit txn moment docs after g e =
    judged fit (folded txn.id moment 0 txn.actions docs)
    (folded-comes law txn.id moment 0 txn.actions docs g) after e
