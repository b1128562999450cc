use Rattle.std.proofs.Common.{◌≡◌, Option, Some, Err, subst}
use Rattle.cs_value.specs.Tree.{Tree}
use Rattle.cs_view.specs.Dataset.{standing}
use Rattle.cs_view.specs.View.{document_of}
use Rattle.cs_patch.specs.Patched.{patched}
use Rattle.cs_patch.specs.Read.{read_patch}
use Rattle.cs_working.specs.Working.{working}
use Rattle.cs_txn.specs.Mutated.{patched_there}
use Rattle.cs_txn.specs.View.{IsTold}
use Rattle.cs_txn.proofs.change.patch_one.Goals as goal

pub returns-in-Err-clause-refused : goal.returns-in-Err-clause-refused
returns-in-Err-clause-refused c =
    let p = read_patch c.args.patch.now in
    let tx = c.args.tx.now in
    let moment = c.args.moment.now in
    let id = c.args.id.now in
    let docs = working c.args.working.now in
    let before = document_of c.in-Some.before.now in
    let there : Some before ≡ standing id docs = c.in-Some.ensures in
    subst (λ (o : Option Tree).
    IsTold (λ cause. patched_there p tx moment docs id o ≡ Err cause) c.why_of.result) there
    (c.why_of.ensures docs (patched p before tx moment) c.in-Err.ensures.refused)
