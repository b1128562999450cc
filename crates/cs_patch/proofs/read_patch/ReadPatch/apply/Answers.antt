use Rattle.cs_value.specs.View.{tree}
use Rattle.cs_view.specs.View.{document_of}
use Rattle.cs_patch.specs.Read.{read_patch}
use Rattle.cs_patch.proofs.Applied.{done}
use Rattle.cs_patch.proofs.read_patch.ReadPatch.apply.Goals as goal

pub of-requires : goal.of-requires
of-requires c =
    let p = read_patch c.args.self.now in
    let d = document_of c.args.doc.now in
    let tx = c.args.tx.now in
    let moment = c.args.moment.now in
    let e = tree c.in_ok-stamped.stamped in
    (c.patched_is_a_document.ensures p d e tx moment c.args.doc.now.is_document
    (done p d tx moment (tree c.in_ok-worked.worked) e c.in_ok-check_revision.ensures
    c.in_ok-worked.ensures c.in_ok-stamped.ensures)).0
