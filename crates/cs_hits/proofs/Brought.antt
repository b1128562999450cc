-- Documents that are brought behind changes.
use Rattle.std.proofs.Common.{◌≡◌, ℕ, ◌+◌, ◌<◌, length, drop, get_or, List, Bool, true, false, sym, ap, ◌∙◌}
use Rattle.std.specs.Prelude.{Contains}
use Rattle.std.proofs.lemmas.List.{drop_more}
use Rattle.cs_value.specs.Tree.{Tree, Pairs}
use Rattle.cs_syntax.specs.Expression.{Expression}
use Rattle.cs_view.specs.Changes.{Edit, are_changes, LeadTo, before_changes, after_changes, changes_where}
use Rattle.cs_view.specs.Dataset.{ascending, kept_if, placed}
use Rattle.cs_view.specs.Keys.{having}
use Rattle.cs_view.specs.Laws.{ChangesLeadBackAndOn, FilterFollowsChanges, UntouchedSelectsTheSame}
use Rattle.cs_view.specs.Touched.{touched}
use Rattle.cs_view.specs.View.{edit, edits}
use Rattle.cs_view.specs.declared.change.Change.{Change}
use Rattle.cs_view.specs.declared.key.Key.{Key}
use Rattle.cs_view.proofs.Changed.{ascending-before_changes}
use Rattle.cs_view.proofs.Datasets.{ascending-filter}
use Rattle.cs_meaning.specs.Hits.{hits, is_hit}

-- the documents of a key that no change touches
pub stays : (docs : List Tree) (cs : List Edit) → ascending docs ≡ true → are_changes cs ≡ true → LeadTo docs cs → UntouchedSelectsTheSame → ChangesLeadBackAndOn
    → (ks : List Key) → touched ks cs ≡ false → (k : Key) → Contains ks k → having k (before_changes docs cs) ≡ having k docs
stays docs cs sorted changes leads untouched back ks quiet k at = untouched docs cs sorted changes ks quiet k at ∙ ap (having k) (back docs cs sorted changes leads).0

-- those that were brought behind the later changes, and now behind one more
pub docs-more : (p : Tree → Bool) (old cur new : List Tree) (changes : List Change) (i : ℕ) (c : Change) → i < length changes → c ≡ get_or changes i c
    → cur ≡ after_changes old (changes_where p (edits (drop (i + 1) changes)))
    → new ≡ placed (edit c).0 (kept_if p (edit c).1.1) cur
    → new ≡ after_changes old (changes_where p (edits (drop i changes)))
docs-more p old cur new changes i c low here so is =
    is ∙ (λ j. placed (edit (here j)).0 (kept_if p (edit (here j)).1.1) (so j))
    ∙ ap (λ (l : List Change). after_changes old (changes_where p (edits l))) (sym (drop_more changes i c low))

-- hits in the dataset before ascend
pub hits-ascend : (docs : List Tree) (cs : List Edit) → ascending docs ≡ true → (e : Expression) (params : Pairs) (ds : List Tree) → ds ≡ hits e params (before_changes docs cs) → ascending ds ≡ true
hits-ascend docs cs h e params ds are = ap ascending are ∙ ascending-filter (is_hit e params) (before_changes docs cs) (ascending-before_changes docs cs h)

-- behind the changes they are those in the dataset after
pub hits-after : ChangesLeadBackAndOn → FilterFollowsChanges → (docs : List Tree) (cs : List Edit) → ascending docs ≡ true → are_changes cs ≡ true → LeadTo docs cs
    → (e : Expression) (params : Pairs) (old new : List Tree) → old ≡ hits e params (before_changes docs cs) → new ≡ after_changes old (changes_where (is_hit e params) cs) → new ≡ hits e params docs
hits-after back follows docs cs h changes leads e params old new are is =
    is ∙ ap (λ (ds : List Tree). after_changes ds (changes_where (is_hit e params) cs)) are
    ∙ sym (follows (is_hit e params) (before_changes docs cs) cs (ascending-before_changes docs cs h) changes)
    ∙ ap (hits e params) (back docs cs h changes leads).2
