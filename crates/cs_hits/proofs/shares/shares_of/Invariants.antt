use Rattle.std.proofs.Common.{◌≡◌, map, take}
use Rattle.cs_value.specs.View.{fields}
use Rattle.cs_syntax.specs.Queries.{expression_of}
use Rattle.cs_view.specs.View.{document_of}
use Rattle.cs_hits.specs.Shares.{AreShares, share_docs}
use Rattle.cs_hits.proofs.shares.shares_of.Given as goal

abbrev pub invariant-loop-doc : goal.invariant-loop-doc
invariant-loop-doc g l = record {
  docs : share_docs l.shares.items ≡ map document_of (take l.doc-index l.docs);
  shares : AreShares (g.V.View.docs l.view) (expression_of l.query) (fields l.params) l.shares.items;
}
