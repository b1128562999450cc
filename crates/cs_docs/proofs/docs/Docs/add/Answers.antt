use Rattle.cs_shelf.specs.View.{documents}
use Rattle.cs_view.specs.View.{document_of}
use Rattle.cs_docs.proofs.Entering.{held-with}
use Rattle.cs_docs.proofs.docs.Docs.add.Goals as goal

pub invariant_of-self : goal.invariant_of-self
invariant_of-self c =
    let self = c.args.self.now in
    let holds = held-with c.add.result (document_of c.args.document) (documents self.shelf) (documents c.add.new.self) c.add.ensures.put c.add.ensures.kept c.requires.clean self.clean c.requires.room in
    record { clean = holds.0; within = holds.1 }
