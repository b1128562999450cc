use Rattle.std.proofs.Common.{◌≡◌, ◌∙◌, ◌+◌, ◌-◌, ℕ, List, length, ap, refl, sym, subst, drop, arith}
use Rattle.std.proofs.lemmas.List.{drop_all}
use Rattle.cs_value.specs.View.{fields}
use Rattle.cs_syntax.specs.Queries.{expression_of}
use Rattle.cs_view.specs.Changes.{after_changes, changes_where}
use Rattle.cs_view.specs.Dataset.{ascending}
use Rattle.cs_view.specs.View.{edits}
use Rattle.cs_view.specs.declared.change.Change.{Change}
use Rattle.cs_view.proofs.Booleans.{or-left, or-right}
use Rattle.cs_view.proofs.Datasets.{ascending-placed}
use Rattle.cs_meaning.specs.Hits.{is_hit}
use Rattle.cs_hits.specs.Shares.{share_docs, shares_looked}
use Rattle.cs_hits.proofs.Brought.{docs-more}
use Rattle.cs_hits.proofs.Recoding.{told-both}
use Rattle.cs_hits.proofs.shares.follow_shares.Goals as goal

pub loop-left-init : goal.loop-left-init
loop-left-init g c =
    let p = is_hit (expression_of c.args.query.now) (fields c.args.params.now) in
    let changes = c.args.changes.now in
    record {
      within = omega arith;
      placed = ap (λ (l : List Change). after_changes (share_docs c.args.shares.now.items) (changes_where p (edits l))) (sym (drop_all (length changes) changes (omega arith)));
      sorted = c.requires.ascending;
      shares = c.requires.shares;
      but = λ h ts but. but;
      same = λ h none. (none, refl);
      codes = λ unset. (unset, refl);
    }

pub loop-left-preserved : goal.loop-left-preserved
loop-left-preserved g c =
    let p = is_hit (expression_of c.args.query.now) (fields c.args.params.now) in
    let old = share_docs c.args.shares.now.items in let cur = share_docs c.loop-left.shares.items in
    let changes = c.args.changes.now in let i = c.loop-left.left - 1 in
    let inv = c.loop-left.invariant in
    let moved = c.in_ok-moved.ensures in
    let next : c.loop-left.left ≡ i + 1 = omega arith in
    record {
      within = omega arith;
      placed = docs-more p old cur (share_docs c.place.new.shares.items) changes i c.index-changes-left.result (omega arith) c.index-changes-left.is
          (subst (λ (k : ℕ). cur ≡ after_changes old (changes_where p (edits (drop k changes)))) next inv.placed) moved.placed;
      sorted = ap ascending moved.placed ∙ ascending-placed _ _ cur inv.sorted;
      shares = moved.shares;
      but = λ h ts but. moved.but (or-right _ _ h) ts (inv.but (or-left _ _ h) ts but);
      same = λ h none.
          let here = moved.same (or-right _ _ h) none in
          let before = inv.same (or-left _ _ h) here.0 in
          (before.0, here.1 ∙ before.1);
      codes = told-both c.args.seed.now (shares_looked c.args.shares.now.items) (shares_looked c.loop-left.shares.items) (shares_looked c.place.new.shares.items)
          c.args.recoded.now c.loop-left.recoded c.place.new.recoded inv.codes moved.codes;
    }

pub returns-clause-follow : goal.returns-clause-follow
returns-clause-follow g c =
    let p = is_hit (expression_of c.args.query.now) (fields c.args.params.now) in
    let none : c.loop-left.left ≡ 0 = omega arith in
    record {
      hits = c.loop-left.invariant.placed ∙ ap (λ (k : ℕ). after_changes (share_docs c.args.shares.now.items) (changes_where p (edits (drop k c.args.changes.now)))) none;
      shares = c.loop-left.invariant.shares;
    }
