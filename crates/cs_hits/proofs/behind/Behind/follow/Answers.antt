use Rattle.std.proofs.Common.{◌≡◌, ◌∙◌, ◌+◌, ◌-◌, ℕ, Bool, List, length, ap, refl, sym, subst, drop, arith}
use Rattle.std.proofs.lemmas.List.{drop_all}
use Rattle.cs_value.specs.Tree.{Tree}
use Rattle.cs_value.specs.View.{fields}
use Rattle.cs_syntax.specs.Queries.{expression_of}
use Rattle.cs_view.specs.Changes.{after_changes, changes_where}
use Rattle.cs_view.specs.Dataset.{ascending, kept_if, placed}
use Rattle.cs_view.specs.View.{edit, edits}
use Rattle.cs_view.specs.declared.change.Change.{Change}
use Rattle.cs_view.proofs.Booleans.{or-left, or-right}
use Rattle.cs_view.proofs.Datasets.{ascending-placed}
use Rattle.cs_hits.proofs.Behinds.{kind-on, kind-same, same_test}
use Rattle.cs_hits.proofs.Brought.{docs-more}
use Rattle.cs_hits.specs.Behind.{held_docs, is_held}
use Rattle.cs_hits.proofs.behind.Behind.follow.Goals as goal

pub loop-left-init : goal.loop-left-init
loop-left-init c =
    let p = is_held (expression_of c.args.query.now) (fields c.args.params.now) c.args.self.now in
    let changes = c.args.changes.now in
    record {
      within = omega arith;
      placed = ap (λ (l : List Change). after_changes (held_docs c.args.self.now) (changes_where p (edits l))) (sym (drop_all (length changes) changes (omega arith)));
      sorted = c.requires.ascending;
      same = λ _. refl;
      kind = kind-same c.args.self.now;
    }

pub loop-left-preserved : goal.loop-left-preserved
loop-left-preserved c =
    let e = expression_of c.args.query.now in let ps = fields c.args.params.now in
    let p = is_held e ps c.args.self.now in
    let old = held_docs c.args.self.now in let cur = held_docs c.loop-left.self in
    let changes = c.args.changes.now in let i = c.loop-left.left - 1 in
    let inv = c.loop-left.invariant in
    let moved = c.in_ok-moved.ensures in
    let next : c.loop-left.left ≡ i + 1 = omega arith in
    record {
      within = omega arith;
      placed = docs-more p old cur (held_docs c.place.new.self) changes i c.index-changes-left.result (omega arith) c.index-changes-left.is
          (subst (λ (k : ℕ). cur ≡ after_changes old (changes_where p (edits (drop k changes)))) next inv.placed)
          (moved.placed ∙ ap (λ (q : Tree → Bool). placed (edit c.index-changes-left.result).0 (kept_if q (edit c.index-changes-left.result).1.1) cur) (same_test e ps c.args.self.now c.loop-left.self inv.kind));
      sorted = ap ascending moved.placed ∙ ascending-placed _ _ cur inv.sorted;
      same = λ h. moved.same (or-right _ _ h) ∙ inv.same (or-left _ _ h);
      kind = kind-on c.args.self.now c.loop-left.self c.place.new.self inv.kind moved.kind;
    }

pub returns-clause-docs : goal.returns-clause-docs
returns-clause-docs c =
    let p = is_held (expression_of c.args.query.now) (fields c.args.params.now) c.args.self.now in
    let none : c.loop-left.left ≡ 0 = omega arith in
    c.loop-left.invariant.placed ∙ ap (λ (k : ℕ). after_changes (held_docs c.args.self.now) (changes_where p (edits (drop k c.args.changes.now)))) none
