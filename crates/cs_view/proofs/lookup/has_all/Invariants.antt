use Rattle.std.proofs.Common.{◌≡◌, drop}
use Rattle.cs_view.specs.Keys.{has_all}
use Rattle.cs_view.specs.View.{document_of}
use Rattle.cs_view.proofs.lookup.has_all.Given as goal

abbrev pub invariant-loop-key : goal.invariant-loop-key
invariant-loop-key l = has_all (drop l.key-index l.keys) (document_of l.doc) ≡ has_all l.keys (document_of l.doc)
