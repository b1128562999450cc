use Rattle.std.proofs.Common.{subst, sym}
use Rattle.cs_wire.specs.View.{request}
use Rattle.cs_wire.specs.declared.command.Command.{Command}
use Rattle.cs_machine.specs.Rows.{row}
use Rattle.cs_core.specs.Core.{state}
use Rattle.cs_core.specs.Visits.{VisitsFew, is_simple_request, request_cost}
use Rattle.cs_core.proofs.machine.Core.run.Goals as goal

pub returns-in-Mutate-clause-visits : goal.returns-in-Mutate-clause-visits
returns-in-Mutate-clause-visits g c =
    let s = state c.args.self.now in
    let n = c.args.line in
    subst (λ (k : Command). VisitsFew (is_simple_request n (request k)) (request_cost s n (request k))
    c.args.self.now (row s n (request k)) c.args.steps.now c.mutate.new.steps)
    (sym c.in-Mutate.is) c.mutate.ensures.visits
