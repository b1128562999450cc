use Rattle.std.proofs.Common.{◌≡◌, ◌∙◌, ◌+◌, ◌-◌, ℕ, suc, ap, subst, drop, arith}
use Rattle.cs_value.specs.View.{fields}
use Rattle.cs_syntax.specs.Queries.{expression_of}
use Rattle.cs_view.specs.Changes.{after_changes, changes_where}
use Rattle.cs_view.specs.Dataset.{ascending}
use Rattle.cs_view.specs.View.{edits}
use Rattle.cs_view.proofs.Booleans.{or-left, or-right}
use Rattle.cs_view.proofs.Datasets.{ascending-placed}
use Rattle.cs_meaning.specs.Hits.{is_hit}
use Rattle.cs_hits.proofs.Brought.{docs-more}
use Rattle.cs_hits.proofs.Newly.{new-now}
use Rattle.cs_hits.specs.Hits.{docs_of}
use Rattle.cs_hits.proofs.hits.Hits.follow.Goals as goal

pub loop-left-preserved : goal.loop-left-preserved
loop-left-preserved c =
    let p = is_hit (expression_of c.args.query.now) (fields c.args.params.now) in
    let old = docs_of c.args.self.now in let cur = docs_of c.loop-left.self in
    let changes = c.args.changes.now in let i = c.loop-left.left - 1 in
    let inv = c.loop-left.invariant in
    let moved = c.in_ok-moved.ensures in
    let next : c.loop-left.left ≡ i + 1 = omega arith in
    record {
      within = omega arith;
      placed = docs-more p old cur (docs_of c.place.new.self) changes i c.index-changes-left.result (omega arith) c.index-changes-left.is
          (subst (λ (k : ℕ). cur ≡ after_changes old (changes_where p (edits (drop k changes)))) next inv.placed) moved.placed;
      sorted = ap ascending moved.placed ∙ ascending-placed _ _ cur inv.sorted;
      near = moved.near;
      same = λ h. moved.same (or-right _ _ h) ∙ inv.same (or-left _ _ h);
      bound = moved.bound ∙ inv.bound;
    }

pub place-requires-clause-new : goal.place-requires-clause-new
place-requires-clause-new c none =
    let p = is_hit (expression_of c.args.query.now) (fields c.args.params.now) in
    let old = docs_of c.args.self.now in let cur = docs_of c.loop-left.self in
    let changes = c.args.changes.now in let i = c.loop-left.left - 1 in
    let next : c.loop-left.left ≡ suc i = omega arith in
    new-now p old cur changes i c.index-changes-left.result (omega arith) c.index-changes-left.is c.requires.changes c.requires.new
    (subst (λ (k : ℕ). cur ≡ after_changes old (changes_where p (edits (drop k changes)))) next c.loop-left.invariant.placed) none

pub returns-clause-docs : goal.returns-clause-docs
returns-clause-docs c =
    let p = is_hit (expression_of c.args.query.now) (fields c.args.params.now) in
    let none : c.loop-left.left ≡ 0 = omega arith in
    c.loop-left.invariant.placed ∙ ap (λ (k : ℕ). after_changes (docs_of c.args.self.now) (changes_where p (edits (drop k c.args.changes.now)))) none
