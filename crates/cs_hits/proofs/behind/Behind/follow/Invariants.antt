use Rattle.std.proofs.Common.{◌≡◌, ◌≤◌, drop, length, false, true}
use Rattle.cs_value.specs.View.{fields}
use Rattle.cs_syntax.specs.Queries.{expression_of}
use Rattle.cs_view.specs.Changes.{after_changes, changes_where}
use Rattle.cs_view.specs.Dataset.{ascending}
use Rattle.cs_view.specs.View.{edits}
use Rattle.cs_hits.specs.Behind.{KeepsKind, held_docs, is_held}
use Rattle.cs_hits.proofs.behind.Behind.follow.Given as goal

abbrev pub invariant-loop-left : goal.invariant-loop-left
invariant-loop-left l = record {
  within : l.left ≤ length l.changes;
  placed : held_docs l.self ≡ after_changes (held_docs l.fn.self) (changes_where (is_held (expression_of l.query) (fields l.params) l.fn.self) (edits (drop l.left l.changes)));
  sorted : ascending (held_docs l.self) ≡ true;
  same : l.touched ≡ false → held_docs l.self ≡ held_docs l.fn.self;
  kind : KeepsKind l.fn.self l.self;
}

abbrev pub decreases-loop-left : goal.decreases-loop-left
decreases-loop-left l = l.left
