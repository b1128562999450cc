use Rattle.std.proofs.Common.{subst, sym}
use Rattle.cs_json.specs.Reading.{Outcome}
use Rattle.cs_machine.specs.Machine.{heard}
use Rattle.cs_machine.specs.Rows.{row}
use Rattle.cs_core.specs.Core.{state}
use Rattle.cs_core.specs.Visits.{VisitsFew, is_simple_command, command_cost, read_command}
use Rattle.cs_core.proofs.machine.Core.hear.Goals as goal

pub returns-in-Ok-clause-visits : goal.returns-in-Ok-clause-visits
returns-in-Ok-clause-visits g c =
    let s = state c.args.self.now in
    let n = c.args.number in
    subst (λ (o : Outcome). VisitsFew (is_simple_command n (read_command o))
    (command_cost s n (read_command o)) c.args.self.now (heard row s n o) c.args.steps.now
    c.command.new.steps) (sym c.in-Ok.ensures.outcome) c.command.ensures.visits
