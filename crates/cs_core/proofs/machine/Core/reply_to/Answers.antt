use Rattle.std.proofs.Common.{rules, ap, sym, ◌∙◌, subst, List, ℕ}
use Rattle.std.proofs.lemmas.Result.{IfOk-weaker, on_err_weaker}
use Rattle.cs_json.specs.Reading.{outcome}
use Rattle.cs_machine.specs.Machine.{deepest_line, heard}
use Rattle.cs_machine.specs.Rows.{row}
use Rattle.cs_core.specs.Core.{state}
use Rattle.cs_state.proofs.Replying.{does_as, leaves_as}
use Rattle.cs_core.proofs.Replying.{silent, step_blank, step_heard}
use Rattle.cs_core.specs.Visits.{VisitsFew, is_simple_command, command_cost, read_command}
use Rattle.cs_core.proofs.Visiting.{few_heard}
use Rattle.cs_core.proofs.machine.Core.reply_to.Goals as goal

pub returns-then-is_blank-clause-does : goal.returns-then-is_blank-clause-does
returns-then-is_blank-clause-does g c =
    let core = c.args.self.now in
    let n = c.args.line.now.number in
    let is = step_blank (state core) n c.args.line.now.bytes.items (search rules) in
    does_as _ _ _ core.state n _ _ is (silent _ _ core n c.requires.usable (search rules))

pub returns-clause-does : goal.returns-clause-does
returns-clause-does g c =
    let n = c.args.line.now.number in
    let s = state c.args.self.now in
    let is = step_heard s n c.args.line.now.bytes.items (search rules)
    ∙ ap (λ (l : List ℕ). heard row s n (outcome deepest_line l)) (sym c.as_slice-2.ensures.value) in
    IfOk-weaker c.hear.result _ _ (λ t h. does_as _ _ t c.hear.new.self.state n _ _ is h)
    c.hear.ensures.does

pub returns-clause-leaves : goal.returns-clause-leaves
returns-clause-leaves g c =
    let n = c.args.line.now.number in
    let s = state c.args.self.now in
    let is = step_heard s n c.args.line.now.bytes.items (search rules)
    ∙ ap (λ (l : List ℕ). heard row s n (outcome deepest_line l)) (sym c.as_slice-2.ensures.value) in
    on_err_weaker c.hear.result (λ h. leaves_as c.args.self.now.state c.hear.new.self.state _ _ is h)
    c.hear.ensures.leaves

pub returns-clause-visits : goal.returns-clause-visits
returns-clause-visits g c =
    let n = c.args.line.now.number in
    let s = state c.args.self.now in
    let heard_of : List ℕ → Type 0 = λ l. VisitsFew
    (is_simple_command n (read_command (outcome deepest_line l)))
    (command_cost s n (read_command (outcome deepest_line l))) c.args.self.now
    (heard row s n (outcome deepest_line l)) c.args.steps.now c.hear.new.steps in
    few_heard c.args.self.now n c.args.line.now.bytes.items c.args.steps.now c.hear.new.steps
    (search rules) (subst heard_of c.as_slice-2.ensures.value c.hear.ensures.visits)
