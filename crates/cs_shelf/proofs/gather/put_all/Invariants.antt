use Rattle.std.proofs.Common.{◌≡◌, ◌++◌, List, map}
use Rattle.std.specs.Vec.Iter.{into_iter_items}
use Rattle.cs_value.specs.Tree.{Tree}
use Rattle.cs_view.specs.View.{document_of}
use Rattle.cs_shelf.specs.Gathering.{AreListed}
use Rattle.cs_shelf.proofs.gather.put_all.Given as goal

abbrev pub invariant-loop-document : goal.invariant-loop-document
invariant-loop-document l =
    (done : List Tree)
    × (map document_of l.fn.documents.items ≡ done ++ map document_of (into_iter_items l.document-iterator))
    × AreListed l.listed.store l.listed.places.items done
