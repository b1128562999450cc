use Rattle.cs_io.specs.Lines.{longest_line}
use Rattle.cs_value.specs.Tree.{widest}
use Rattle.cs_value.specs.View.{tree}
use Rattle.cs_wire.specs.View.{request}
use Rattle.cs_core.proofs.Replying.{within_more}
use Rattle.std.proofs.Common.{subst, sym, Option}
use Rattle.cs_wire.specs.Commands.{Request}
use Rattle.cs_machine.specs.Machine.{by_command}
use Rattle.cs_machine.specs.Rows.{row}
use Rattle.cs_core.specs.Core.{state}
use Rattle.cs_core.specs.Visits.{VisitsFew, is_simple_command, command_cost}
use Rattle.cs_core.proofs.machine.Core.command.Goals as goal

pub run-requires-clause-short : goal.run-requires-clause-short
run-requires-clause-short g c =
    within_more (widest (tree c.args.val)) longest_line (request c.in-Ok.command) c.requires.short (c.commands_are_within.ensures (tree c.args.val) (request c.in-Ok.command) c.in-Ok.ensures)

pub returns-in-Ok-clause-visits : goal.returns-in-Ok-clause-visits
returns-in-Ok-clause-visits g c =
    let s = state c.args.self.now in
    let n = c.args.line in
    subst (λ (o : Option Request). VisitsFew (is_simple_command n o) (command_cost s n o)
    c.args.self.now (by_command row s n o) c.args.steps.now c.run.new.steps)
    (sym c.in-Ok.ensures) c.run.ensures.visits
