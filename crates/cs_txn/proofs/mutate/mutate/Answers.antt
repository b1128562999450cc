use Rattle.std.proofs.Common.{◌≡◌, Err, IfErr, sym, ap, subst}
use Rattle.cs_body.specs.Transaction.{Action}
use Rattle.cs_body.specs.View.{action}
use Rattle.cs_working.specs.Working.{working}
use Rattle.cs_txn.specs.Mutated.{done}
use Rattle.cs_txn.specs.View.{IsTold}
use Rattle.cs_txn.proofs.mutate.mutate.Goals as goal

pub returns-in-Change-clause-refused : goal.returns-in-Change-clause-refused
returns-in-Change-clause-refused g c =
    let tx = c.args.tx.now in
    let moment = c.args.moment.now in
    let index = c.args.index in
    let docs = working c.args.working.now in
    subst (λ (a : Action). IfErr c.change.result
    (IsTold (λ cause. done tx moment index docs a ≡ Err cause)))
    (sym (ap action c.in-Change.is)) c.change.ensures.refused
