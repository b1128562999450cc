use Rattle.cs_body.specs.View.{txn}
use Rattle.cs_txn.specs.Visits.{are_simple}
use Rattle.cs_state.proofs.Visiting.{few_from}
use Rattle.cs_state.proofs.state.State.transact.Goals as goal

pub returns-clause-visits : goal.returns-clause-visits
returns-clause-visits g c =
    let x = txn c.args.txn in
    few_from (are_simple x.actions) x c.args.self.now c.make_ready_for.new.self c.args.steps.now
    c.do_all.new.steps c.make_ready_for.ensures.state c.make_ready_for.ensures.live
    c.do_all.ensures.visits
