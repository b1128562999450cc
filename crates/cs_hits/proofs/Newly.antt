-- A document that is new was not among those that are brought behind changes.
use Rattle.std.proofs.Common.{◌≡◌, ℕ, zero, suc, ◌<◌, length, drop, get_or, List, [], ◌∷◌, Option, Some, None, filter, Bool, true, false, cond, is_some, option_map, true≢false, refl, sym, ap, ◌∙◌, arith}
use Rattle.std.specs.List.{AllByRecursion}
use Rattle.std.specs.FinMap.Entries.{below_all}
use Rattle.cs_value.specs.Tree.{Tree}
use Rattle.cs_view.specs.Changes.{Edit, after_changes, are_changes, changes_where, ids_ascend, is_of_id}
use Rattle.cs_view.specs.Dataset.{standing, ascending, id_cmp, kept_if, placed, same_id}
use Rattle.cs_view.specs.View.{document_of, edit, edits}
use Rattle.cs_view.specs.declared.change.Change.{Change}
use Rattle.cs_view.specs.declared.doc.Doc.{Doc}
use Rattle.cs_view.proofs.Booleans.{and-left, and-right}
use Rattle.cs_view.proofs.Changed.{OwnIds, own_ids}
use Rattle.cs_view.proofs.Datasets.{standing-filter, standing-placed, ascending-placed, lower-differs, same_docs, same_id-same}
use Rattle.cs_hits.specs.Hits.{NoneIsNew}

own-kept : (p : Tree → Bool) (id : List ℕ) (o : Option Tree) → is_of_id id o ≡ true → is_of_id id (kept_if p o) ≡ true
own-kept p id None h = refl
own-kept p id (Some d) h = by_test (p d) where
  by_test : (b : Bool) → is_of_id id (cond b (Some d) None) ≡ true
  by_test true = h
  by_test false = refl

-- changes of higher ids put nothing under an id
absent-after : (p : Tree → Bool) (id : List ℕ) (old : List Tree) (cs : List Edit) → below_all id_cmp id cs ≡ true → OwnIds cs → standing id old ≡ None → standing id (after_changes old (changes_where p cs)) ≡ None
absent-after p id old [] low own none = none
absent-after p id old (c ∷ cs) low own none =
    standing-placed id c.0 (kept_if p c.1.1) (after_changes old (changes_where p cs)) (own-kept p c.0 c.1.1 own.0.1)
    ∙ ap (λ b. cond b (kept_if p c.1.1) (standing id (after_changes old (changes_where p cs)))) (lower-differs id c.0 (and-left _ _ low))
    ∙ absent-after p id old cs (and-right _ _ low) own.1 none

new-at : (p : Tree → Bool) (old : List Tree) (cs : List Change) (i : ℕ) (d : Change) → i < length cs → ids_ascend (edits cs) ≡ true → OwnIds (edits cs) → NoneIsNew (edits cs) old
    → (edit (get_or cs i d)).1.0 ≡ None → standing (edit (get_or cs i d)).0 (after_changes old (changes_where p (edits (drop (suc i) cs)))) ≡ None
new-at p old [] i d low sorted own new none = absurd (omega arith)
new-at p old (c ∷ cs) zero d low sorted own new none = absent-after p (edit c).0 old (edits cs) (and-left _ _ sorted) own.1 (new.0 none)
new-at p old (c ∷ cs) (suc i) d low sorted own new none = new-at p old cs i d (omega arith) (and-right _ _ sorted) own.1 new.1 none

-- among those that were brought behind the later changes
pub new-now : (p : Tree → Bool) (old cur : List Tree) (changes : List Change) (i : ℕ) (c : Change) → i < length changes → c ≡ get_or changes i c → are_changes (edits changes) ≡ true → NoneIsNew (edits changes) old
    → cur ≡ after_changes old (changes_where p (edits (drop (suc i) changes))) → (edit c).1.0 ≡ None → standing (edit c).0 cur ≡ None
new-now p old cur changes i c low here are new so none =
    (λ j. standing (edit (here j)).0 (so j)) ∙ new-at p old changes i c low (and-left _ _ are) (own_ids (edits changes) are) new (ap (λ (x : Change). (edit x).1.0) (sym here) ∙ none)

-- then there is nothing to take out
pub nothing-to-take : (id : List ℕ) (ds : List Tree) → ascending ds ≡ true → standing id ds ≡ None → ds ≡ placed id None ds
nothing-to-take id ds h none =
    same_docs ds (placed id None ds) h (ascending-placed id None ds h) (λ q. by_test q (same_id q id) refl ∙ sym (standing-placed q id None ds refl))
  where
    by_test : (q : List ℕ) (b : Bool) → same_id q id ≡ b → standing q ds ≡ cond b None (standing q ds)
    by_test q true e = ap (λ k. standing k ds) (same_id-same q id e) ∙ none
    by_test q false e = refl

-- the documents of a dataset that pass a test
pub none-is-new : (p : Tree → Bool) (ds : List Tree) → ascending ds ≡ true → (cs : List Edit) → AllByRecursion (λ c. c.1.0 ≡ standing c.0 ds) cs → NoneIsNew cs (filter p ds)
none-is-new p ds h [] leads = tt
none-is-new p ds h (c ∷ cs) leads = ((λ none. standing-filter p c.0 ds h ∙ ap (kept_if p) (sym leads.0 ∙ none)), none-is-new p ds h cs leads.1)

-- ---- the sides of a change
pub unmet-kept : (p : Tree → Bool) (o : Option Doc) (d : Doc) → o ≡ Some d → p (document_of d) ≡ false → kept_if p (option_map document_of o) ≡ None
unmet-kept p o d is unmet = ap (λ (x : Option Doc). kept_if p (option_map document_of x)) is ∙ ap (λ b. cond b (Some (document_of d)) None) unmet

pub none-stood : (o : Option Doc) → is_some o ≡ false → option_map document_of o ≡ None
none-stood None h = refl
none-stood (Some d) h = absurd (true≢false h)
