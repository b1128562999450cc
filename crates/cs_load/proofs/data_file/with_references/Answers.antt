use Rattle.std.proofs.Common.{◌∙◌, ap, sym, subst, map, Err}
use Rattle.cs_view.specs.View.{document_of}
use Rattle.cs_docs.specs.References.{first_dangling}
use Rattle.cs_machine.specs.DataFile.{dataset, of_references}
use Rattle.cs_load.specs.Loading.{Loads}
use Rattle.cs_load.specs.Reads.{ReadFails}
use Rattle.cs_load.specs.declared.fault.LoadFault.{LoadFault}
use Rattle.cs_load.proofs.Verdicts.{whole, not_full, faulted, no_read}
use Rattle.cs_load.proofs.data_file.with_references.Goals as goal

pub returns-in-Ok-clause-loads : goal.returns-in-Ok-clause-loads
returns-in-Ok-clause-loads c =
    whole (map document_of c.args.documents.items) c.requires.within c.in-Ok.ensures.1 ∙ ap dataset (sym c.in-Ok.ensures.0)

pub store_fault-requires : goal.store_fault-requires
store_fault-requires c = not_full (map document_of c.args.documents.items) c.in-Err.fault c.requires.within c.in-Err.ensures

pub returns-in-Err-clause-loads : goal.returns-in-Err-clause-loads
returns-in-Err-clause-loads c =
    let ds = map document_of c.args.documents.items in
    subst (λ (e : LoadFault). Loads (Err e) (of_references ds (first_dangling ds))) (sym c.store_fault.ensures) (faulted ds c.in-Err.fault c.requires.within c.in-Err.ensures)

pub returns-in-Err-clause-fault : goal.returns-in-Err-clause-fault
returns-in-Err-clause-fault c = λ before now. subst (ReadFails before now) (sym c.store_fault.ensures) (no_read c.in-Err.fault before now)
