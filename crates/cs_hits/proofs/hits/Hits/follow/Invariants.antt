use Rattle.std.proofs.Common.{◌≡◌, ◌≤◌, drop, length, false, true}
use Rattle.cs_value.specs.View.{fields}
use Rattle.cs_syntax.specs.Queries.{expression_of}
use Rattle.cs_view.specs.Changes.{after_changes, changes_where}
use Rattle.cs_view.specs.Dataset.{ascending}
use Rattle.cs_view.specs.View.{edits}
use Rattle.cs_meaning.specs.Hits.{is_hit}
use Rattle.cs_hits.specs.Hits.{AreNear, KeepsBound, docs_of, settling}
use Rattle.cs_hits.proofs.hits.Hits.follow.Given as goal

abbrev pub invariant-loop-left : goal.invariant-loop-left
invariant-loop-left l = record {
  within : l.left ≤ length l.changes;
  placed : docs_of l.self ≡ after_changes (docs_of l.fn.self) (changes_where (is_hit (expression_of l.query) (fields l.params)) (edits (drop l.left l.changes)));
  sorted : ascending (docs_of l.self) ≡ true;
  near : AreNear (expression_of l.query) (fields l.params) l.self;
  same : l.touched ≡ false → settling l.self ≡ settling l.fn.self;
  bound : KeepsBound l.fn.self l.self;
}

abbrev pub decreases-loop-left : goal.decreases-loop-left
decreases-loop-left l = l.left
