use Rattle.std.proofs.Common.{length, ◌*◌, ◌+◌, ◌-◌, ◌≤◌}
use Rattle.cs_grammar.specs.Reading.{Outcome, Reads, carets_from}
use Rattle.cs_grammar.specs.View.{left}
use Rattle.cs_grammar.proofs.bases.carets.Given as goal

abbrev pub invariant-loop-rest : goal.invariant-loop-rest
invariant-loop-rest l = record {
  from : l.at ≤ l.left;
  to : l.left ≤ length l.ts;
  few : 2 * l.levels ≤ l.left - l.at + 2;
  reads : (o : Outcome) → Reads (carets_from l.levels) (left l.ts l.left) o →
      Reads (carets_from 1) (left l.ts l.at) o;
}

abbrev pub decreases-loop-rest : goal.decreases-loop-rest
decreases-loop-rest l = length l.ts - l.left
