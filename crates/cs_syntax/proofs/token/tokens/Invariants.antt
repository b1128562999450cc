use Rattle.std.proofs.Common.{length, ◌-◌, ◌≤◌}
use Rattle.cs_syntax.specs.Lex.{Reads}
use Rattle.cs_syntax.proofs.token.tokens.Given as goal

abbrev pub invariant-loop-found : goal.invariant-loop-found
invariant-loop-found l = record {
  reads : Reads l.text 0 l.found.items l.end;
  to : l.end ≤ length l.text;
}

abbrev pub decreases-loop-found : goal.decreases-loop-found
decreases-loop-found l = length l.text - l.end
