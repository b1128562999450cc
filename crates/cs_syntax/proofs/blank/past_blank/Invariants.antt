use Rattle.std.proofs.Common.{length, ◌-◌, ◌≡◌, ◌+◌, ◌≤◌, drop}
use Rattle.cs_syntax.specs.Lex.{blank_from, past_blank}
use Rattle.cs_syntax.proofs.blank.past_blank.Given as goal

abbrev pub invariant-loop-end : goal.invariant-loop-end
invariant-loop-end l = record {
  same : l.end + blank_from l.in_comment (drop l.end l.bytes) ≡ past_blank l.bytes l.at;
  from : l.at ≤ l.end;
  to : l.end ≤ length l.bytes;
}

abbrev pub decreases-loop-end : goal.decreases-loop-end
decreases-loop-end l = length l.bytes - l.end
