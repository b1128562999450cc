use Rattle.std.proofs.Common.{◌≡◌, ◌++◌, map, drop}
use Rattle.cs_view.specs.View.{document_of}
use Rattle.cs_parts.specs.Parts.{item}
use Rattle.cs_eval.proofs.windows.lent_docs.Given as goal

abbrev pub invariant-loop-doc : goal.invariant-loop-doc
invariant-loop-doc l = map item l.items.items ++ map document_of (drop l.doc-index l.docs) ≡ map document_of l.docs
