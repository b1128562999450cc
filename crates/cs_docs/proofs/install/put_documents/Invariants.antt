use Rattle.std.proofs.Common.{◌≡◌, ◌++◌, map}
use Rattle.std.specs.Vec.Iter.{into_iter_items}
use Rattle.cs_view.specs.View.{document_of, edits}
use Rattle.cs_docs.specs.Installing.{put, picked}
use Rattle.cs_docs.proofs.install.put_documents.Given as goal

abbrev pub invariant-loop-change : goal.invariant-loop-change
invariant-loop-change l =
    map document_of l.documents.items ++ picked put (edits (into_iter_items l.change-iterator))
    ≡ picked put (edits l.fn.changes.items)
