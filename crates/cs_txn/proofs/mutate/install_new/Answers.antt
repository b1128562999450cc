use Rattle.cs_working.specs.Working.{working}
use Rattle.cs_txn.specs.Mutated.{created}
use Rattle.cs_txn.proofs.mutate.install_new.Goals as goal

pub returns-in-Err-clause-refused : goal.returns-in-Err-clause-refused
returns-in-Err-clause-refused c =
    c.in-Err.ensures.refused
    (created c.args.tx.now c.args.moment.now (working c.args.working.now))
