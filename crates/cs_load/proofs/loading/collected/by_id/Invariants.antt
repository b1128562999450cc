use Rattle.std.proofs.Common.{◌≡◌, ◌++◌, List, map}
use Rattle.std.specs.Vec.Iter.{into_iter_items}
use Rattle.cs_view.specs.View.{document_of}
use Rattle.cs_view.specs.declared.doc.Doc.{Doc}
use Rattle.cs_load.specs.Gathered.{gathered, AreById}
use Rattle.cs_load.proofs.loading.collected.by_id.Given as goal

abbrev pub invariant-loop-document : goal.invariant-loop-document
invariant-loop-document l =
    (done : List Doc) × (l.fn.documents.items ≡ done ++ into_iter_items l.document-iterator) × AreById l.sorted.entries × (gathered l.sorted.entries ≡ map document_of done)
