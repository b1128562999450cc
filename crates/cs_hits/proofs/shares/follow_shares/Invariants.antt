use Rattle.std.proofs.Common.{◌≡◌, ◌≤◌, List, [], drop, length, false, true}
use Rattle.cs_value.specs.Tree.{Tree}
use Rattle.cs_value.specs.View.{fields}
use Rattle.cs_syntax.specs.Queries.{expression_of}
use Rattle.cs_view.specs.Changes.{after_changes, changes_where}
use Rattle.cs_view.specs.Dataset.{ascending}
use Rattle.cs_view.specs.View.{edits}
use Rattle.cs_meaning.specs.Hits.{is_hit}
use Rattle.cs_hits.specs.Shares.{AreShares, SameBut, TellsCodes, share_docs, share_values, shares_looked}
use Rattle.cs_hits.proofs.shares.follow_shares.Given as goal

abbrev pub invariant-loop-left : goal.invariant-loop-left
invariant-loop-left g l = record {
  within : l.left ≤ length l.changes;
  placed : share_docs l.shares.items ≡ after_changes (share_docs l.fn.shares.items) (changes_where (is_hit (expression_of l.query) (fields l.params)) (edits (drop l.left l.changes)));
  sorted : ascending (share_docs l.shares.items) ≡ true;
  shares : AreShares (g.V.View.docs l.view) (expression_of l.query) (fields l.params) l.shares.items;
  but : l.shifted ≡ false → (ts : List Tree) → SameBut l.fn.anew.items ts (share_values l.fn.shares.items) → SameBut l.anew.items ts (share_values l.shares.items);
  same : l.shifted ≡ false → l.anew.items ≡ [] → (l.fn.anew.items ≡ []) × (l.shares.items ≡ l.fn.shares.items);
  codes : TellsCodes l.seed (shares_looked l.fn.shares.items) (shares_looked l.shares.items) l.fn.recoded l.recoded;
}

abbrev pub decreases-loop-left : goal.decreases-loop-left
decreases-loop-left g l = l.left
