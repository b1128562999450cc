use Rattle.std.proofs.Common.{◌≡◌, ◌++◌, map}
use Rattle.std.specs.Vec.Iter.{into_iter_items}
use Rattle.cs_view.specs.View.{document_of, edits}
use Rattle.cs_docs.specs.Gathered.{entering}
use Rattle.cs_docs.proofs.gather.entering.Given as goal

abbrev pub invariant-loop-document : goal.invariant-loop-document
invariant-loop-document l =
    edits l.changes.items ++ entering (map document_of (into_iter_items l.document-iterator))
    ≡ entering (map document_of l.fn.documents.items)
