use Rattle.std.proofs.Common.{◌≡◌, Bool, Err, sym, subst}
use Rattle.cs_patch.specs.View.{patch}
use Rattle.cs_body.specs.View.{aim}
use Rattle.cs_working.specs.Working.{working}
use Rattle.cs_txn.specs.Mutated.{edited, patched_by}
use Rattle.cs_txn.specs.View.{IsTold}
use Rattle.cs_txn.proofs.change.change.Goals as goal

pub returns-in-Err-clause-refused : goal.returns-in-Err-clause-refused
returns-in-Err-clause-refused g c =
    let tx = c.args.tx.now in
    let moment = c.args.moment.now in
    let docs = working c.args.working.now in
    let target = aim c.args.target.now in
    let p = patch c.args.patch.now in
    subst (λ (b : Bool).
    IsTold (λ cause. edited tx moment docs target p b ≡ Err cause) c.why_unread.result)
    (sym c.if-diff.false)
    (c.why_unread.ensures (patched_by p tx moment docs target) p c.in-Err.ensures.refused)
