use Rattle.std.proofs.Common.{◌≡◌, [], take, drop}
use Rattle.cs_value.specs.View.{fields}
use Rattle.cs_syntax.specs.Queries.{expression_of}
use Rattle.cs_view.specs.Changes.{before_changes}
use Rattle.cs_view.specs.View.{edits}
use Rattle.cs_hits.specs.Shares.{AreShares, SameBut, TellsCodes, share_docs, share_values, shares_looked}
use Rattle.cs_hits.proofs.shares.renew_shares.Given as goal

abbrev pub invariant-loop-place : goal.invariant-loop-place
invariant-loop-place g l = record {
  docs : share_docs l.shares.items ≡ share_docs l.fn.shares.items;
  done : AreShares (g.V.View.docs l.view) (expression_of l.query) (fields l.params) (take l.place l.shares.items);
  left : AreShares (before_changes (g.V.View.docs l.view) (edits l.changes)) (expression_of l.query) (fields l.params) (drop l.place l.shares.items);
  but : SameBut l.anew.items (share_values l.fn.shares.items) (share_values l.shares.items);
  same : l.anew.items ≡ [] → l.shares.items ≡ l.fn.shares.items;
  codes : TellsCodes l.seed (shares_looked l.fn.shares.items) (shares_looked l.shares.items) l.fn.recoded l.recoded;
}
