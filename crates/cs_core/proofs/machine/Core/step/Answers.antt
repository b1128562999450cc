use Rattle.cs_core.specs.Core.{state}
use Rattle.cs_core.specs.Visits.{is_simple_line, line_cost}
use Rattle.cs_machine.specs.Machine.{step}
use Rattle.cs_core.proofs.Visiting.{few_of_simple}
use Rattle.cs_core.proofs.machine.Core.step.Goals as goal

pub returns-in-Ok-clause-costs : goal.returns-in-Ok-clause-costs
returns-in-Ok-clause-costs g c =
    let core = c.args.self.now in
    let n = c.args.line.now.number in
    let line = c.args.line.now.bytes.items in
    few_of_simple c.simple_lives_ask_nothing.ensures (is_simple_line n line)
    (line_cost (state core) n line) core (step (state core) n line) c.args.steps.now
    c.reply_to.new.steps c.requires.sound c.if-self.false c.reply_to.ensures.visits

pub returns-in-Err-clause-costs : goal.returns-in-Err-clause-costs
returns-in-Err-clause-costs g c =
    let core = c.args.self.now in
    let n = c.args.line.now.number in
    let line = c.args.line.now.bytes.items in
    few_of_simple c.simple_lives_ask_nothing.ensures (is_simple_line n line)
    (line_cost (state core) n line) core (step (state core) n line) c.args.steps.now
    c.reply_to.new.steps c.requires.sound c.if-self.false c.reply_to.ensures.visits
