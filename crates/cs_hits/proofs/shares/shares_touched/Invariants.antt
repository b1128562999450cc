use Rattle.std.proofs.Common.{◌≡◌, drop}
use Rattle.cs_view.specs.Touched.{touched}
use Rattle.cs_view.specs.View.{edits}
use Rattle.cs_hits.specs.Shares.{shares_looked}
use Rattle.cs_hits.proofs.shares.shares_touched.Given as goal

abbrev pub invariant-loop-share : goal.invariant-loop-share
invariant-loop-share l = touched (shares_looked (drop l.share-index l.shares)) (edits l.changes) ≡ touched (shares_looked l.shares) (edits l.changes)
