use Rattle.std.proofs.Common.{◌≡◌, ◌≤◌, ◌+◌, ℕ, suc, take, refl, subst, sym, arith, rules, Ok, Err, Some, None}
use Rattle.cs_io.specs.Laws.{given_lines}
use Rattle.cs_io.specs.Lines.{feed_of}
use Rattle.cs_docs.specs.Store.{docs}
use Rattle.cs_io.specs.Next.{IsNext}
use Rattle.cs_io.specs.declared.lines.LineFault.TheVariants as fault
use Rattle.cs_core.specs.Core.{state}
use Rattle.cs_machine.specs.State.{begun}
use Rattle.cs_run.specs.Visits.{lines_cost}
use Rattle.cs_run.proofs.Costing.{cost_taken, told_costs}
use Rattle.cs_run.proofs.Playing.{Answer, visited, visited_all, begins, went, told_writes, stop_memory, stop_done, stop_read, stop_long, stop_much, stop_line}
use Rattle.cs_run.proofs.top.run_script.Goals as goal

pub turns-init : goal.turns-init
turns-init g c = record {
  opened = c.requires;
  in_step = grind arith;
  sound = λ _. c.in-Ok.ensures.usable.fitting;
  which = grind arith;
  within = grind arith;
  writes_later = grind arith;
  costs = λ script told simple. omega arith;
  calls = search rules;
  played = λ script told. rw told (begins (begun (docs c.args.docs)) script (g.K.Sink.taken c.args.sink.now) (state c.in-Ok.core) c.new-lines.result c.in-Ok.ensures.begun (grind arith) (grind arith) (grind arith));
}

pub returns-in-Err-clause-writes : goal.returns-in-Err-clause-writes
returns-in-Err-clause-writes g c =
    let left = g.Lb.Library.left in
    let next : IsNext c.turns.lines c.next.new.self c.in-Ok-Some.line = rw c.in-Ok-Some.field-0-is at c.in-Ok-Some.ensures.count in
    let answer : Answer (Ok (Some c.in-Ok-Some.line)) c.turns.lines c.next.new.self (left c.turns.library c.args.number) (left c.next.new.library c.args.number)
    = record { gives = rw (c.turns.invariant.which, c.in-Ok-Some.field-0-is) at c.in-Ok-Some.ensures.line; texts = rw (c.turns.invariant.which, c.in-Ok-Some.field-0-is) at c.in-Ok-Some.ensures.text } in
    told_writes (λ script told. stop_line (c.turns.invariant.played script told) answer next.number c.in-Err.status (g.K.Sink.taken c.run_line.new.sink) c.in-Err.ensures.stops)

pub turns-preserved : goal.turns-preserved
turns-preserved g c =
    let left = g.Lb.Library.left in
    let next : IsNext c.turns.lines c.next.new.self c.in-Ok-Some.line = rw c.in-Ok-Some.field-0-is at c.in-Ok-Some.ensures.count in
    let answer : Answer (Ok (Some c.in-Ok-Some.line)) c.turns.lines c.next.new.self (left c.turns.library c.args.number) (left c.next.new.library c.args.number)
    = record { gives = rw (c.turns.invariant.which, c.in-Ok-Some.field-0-is) at c.in-Ok-Some.ensures.line; texts = rw (c.turns.invariant.which, c.in-Ok-Some.field-0-is) at c.in-Ok-Some.ensures.text } in
    record {
      opened = rw c.next.ensures.calls.same_asked c.turns.invariant.opened;
      in_step = grind arith;
      sound = c.run_line.ensures.sound;
      which = grind arith;
      within = omega (arith, next.given, next.within);
      writes_later = omega (arith, c.turns.invariant.writes_later, c.run_line.ensures.later);
      costs = λ script told simple.
          let given : c.next.new.self.given ≡ suc c.turns.lines.given = omega (arith, next.number, next.given) in
          subst (λ (k : ℕ). c.run_line.new.steps ≤ c.args.steps.now + lines_cost (begun (docs c.args.docs)) 1 (take k (given_lines (feed_of script)))) (sym given)
          (visited (c.turns.invariant.played script told) answer next.number c.simple_lines_keep_lives_simple.ensures refl c.args.steps.now c.turns.steps c.run_line.new.steps simple (c.turns.invariant.costs script told simple) c.run_line.ensures.costs);
      calls = search rules;
      played = λ script told. went (c.turns.invariant.played script told) answer next.number c.turns.invariant.in_step next.given c.in_default-run_line.ensures.state c.in_default-run_line.ensures.writes;
    }

pub returns-in-Ok-None-clause-writes : goal.returns-in-Ok-None-clause-writes
returns-in-Ok-None-clause-writes g c =
    let left = g.Lb.Library.left in
    let answer : Answer (Ok None) c.turns.lines c.next.new.self (left c.turns.library c.args.number) (left c.next.new.library c.args.number)
    = record { gives = rw (c.turns.invariant.which, c.in-Ok-None.field-0-is) at c.in-Ok-None.ensures.line; texts = rw (c.turns.invariant.which, c.in-Ok-None.field-0-is) at c.in-Ok-None.ensures.text } in
    told_writes (λ script told. stop_done (c.turns.invariant.played script told) answer)

pub returns-in-Err-Read-clause-writes : goal.returns-in-Err-Read-clause-writes
returns-in-Err-Read-clause-writes g c =
    let left = g.Lb.Library.left in
    let answer : Answer (Err fault.Read) c.turns.lines c.next.new.self (left c.turns.library c.args.number) (left c.next.new.library c.args.number)
    = record { gives = rw (c.turns.invariant.which, c.in-Err-Read.field-0-is) at c.in-Err-Read.ensures.line; texts = rw (c.turns.invariant.which, c.in-Err-Read.field-0-is) at c.in-Err-Read.ensures.text } in
    let stands = rw c.in-Err-Read.field-0-is at c.in-Err-Read.ensures.stands in
    told_writes (λ script told. stop_read (c.turns.invariant.played script told) answer stands.0 stands.1)

pub returns-in-Err-TooLong-clause-writes : goal.returns-in-Err-TooLong-clause-writes
returns-in-Err-TooLong-clause-writes g c =
    let left = g.Lb.Library.left in
    let n = c.in-Err-TooLong.line in
    let answer : Answer (Err (fault.TooLong n)) c.turns.lines c.next.new.self (left c.turns.library c.args.number) (left c.next.new.library c.args.number)
    = record { gives = rw (c.turns.invariant.which, c.in-Err-TooLong.field-0-is) at c.in-Err-TooLong.ensures.line; texts = rw (c.turns.invariant.which, c.in-Err-TooLong.field-0-is) at c.in-Err-TooLong.ensures.text } in
    told_writes (λ script told. stop_long (c.turns.invariant.played script told) answer c.end_stopped.ensures.stated)

pub returns-in-Err-TooMuch-clause-writes : goal.returns-in-Err-TooMuch-clause-writes
returns-in-Err-TooMuch-clause-writes g c =
    let left = g.Lb.Library.left in
    let n = c.in-Err-TooMuch.line in
    let answer : Answer (Err (fault.TooMuch n)) c.turns.lines c.next.new.self (left c.turns.library c.args.number) (left c.next.new.library c.args.number)
    = record { gives = rw (c.turns.invariant.which, c.in-Err-TooMuch.field-0-is) at c.in-Err-TooMuch.ensures.line; texts = rw (c.turns.invariant.which, c.in-Err-TooMuch.field-0-is) at c.in-Err-TooMuch.ensures.text } in
    told_writes (λ script told. stop_much (c.turns.invariant.played script told) answer c.end_stopped-in-Err-TooMuch.ensures.stated)

pub returns-in-Err-NoMemory-clause-writes : goal.returns-in-Err-NoMemory-clause-writes
returns-in-Err-NoMemory-clause-writes g c =
    let left = g.Lb.Library.left in
    let answer : Answer c.next.result c.turns.lines c.next.new.self (left c.turns.library c.args.number) (left c.next.new.library c.args.number)
    = record { gives = rw c.turns.invariant.which at c.next.ensures.line; texts = rw c.turns.invariant.which at c.next.ensures.text } in
    told_writes (λ script told. stop_memory (c.turns.invariant.played script told) answer)

pub returns-in-Err-clause-costs : goal.returns-in-Err-clause-costs
returns-in-Err-clause-costs g c =
    let left = g.Lb.Library.left in
    let next : IsNext c.turns.lines c.next.new.self c.in-Ok-Some.line = rw c.in-Ok-Some.field-0-is at c.in-Ok-Some.ensures.count in
    let answer : Answer (Ok (Some c.in-Ok-Some.line)) c.turns.lines c.next.new.self (left c.turns.library c.args.number) (left c.next.new.library c.args.number)
    = record { gives = rw (c.turns.invariant.which, c.in-Ok-Some.field-0-is) at c.in-Ok-Some.ensures.line; texts = rw (c.turns.invariant.which, c.in-Ok-Some.field-0-is) at c.in-Ok-Some.ensures.text } in
    told_costs (begun (docs c.args.docs)) (left c.args.library.now c.args.number) c.args.steps.now c.run_line.new.steps
    (λ script told simple. visited_all (c.turns.invariant.played script told) answer next.number c.simple_lines_keep_lives_simple.ensures refl c.args.steps.now c.turns.steps c.run_line.new.steps simple (c.turns.invariant.costs script told simple) c.run_line.ensures.costs)

pub returns-in-Ok-None-clause-costs : goal.returns-in-Ok-None-clause-costs
returns-in-Ok-None-clause-costs g c =
    let s0 = begun (docs c.args.docs) in
    told_costs s0 (g.Lb.Library.left c.args.library.now c.args.number) c.args.steps.now c.turns.steps
    (λ script told simple. omega (arith, c.turns.invariant.costs script told simple, cost_taken s0 c.turns.lines.given (given_lines (feed_of script))))

pub returns-in-Err-Read-clause-costs : goal.returns-in-Err-Read-clause-costs
returns-in-Err-Read-clause-costs g c =
    let s0 = begun (docs c.args.docs) in
    told_costs s0 (g.Lb.Library.left c.args.library.now c.args.number) c.args.steps.now c.turns.steps
    (λ script told simple. omega (arith, c.turns.invariant.costs script told simple, cost_taken s0 c.turns.lines.given (given_lines (feed_of script))))

pub returns-in-Err-TooLong-clause-costs : goal.returns-in-Err-TooLong-clause-costs
returns-in-Err-TooLong-clause-costs g c =
    let s0 = begun (docs c.args.docs) in
    told_costs s0 (g.Lb.Library.left c.args.library.now c.args.number) c.args.steps.now c.turns.steps
    (λ script told simple. omega (arith, c.turns.invariant.costs script told simple, cost_taken s0 c.turns.lines.given (given_lines (feed_of script))))

pub returns-in-Err-TooMuch-clause-costs : goal.returns-in-Err-TooMuch-clause-costs
returns-in-Err-TooMuch-clause-costs g c =
    let s0 = begun (docs c.args.docs) in
    told_costs s0 (g.Lb.Library.left c.args.library.now c.args.number) c.args.steps.now c.turns.steps
    (λ script told simple. omega (arith, c.turns.invariant.costs script told simple, cost_taken s0 c.turns.lines.given (given_lines (feed_of script))))

pub returns-in-Err-NoMemory-clause-costs : goal.returns-in-Err-NoMemory-clause-costs
returns-in-Err-NoMemory-clause-costs g c =
    let s0 = begun (docs c.args.docs) in
    told_costs s0 (g.Lb.Library.left c.args.library.now c.args.number) c.args.steps.now c.turns.steps
    (λ script told simple. omega (arith, c.turns.invariant.costs script told simple, cost_taken s0 c.turns.lines.given (given_lines (feed_of script))))
