use Rattle.std.proofs.Common.{length, ◌-◌, ◌≡◌, ◌≤◌}
use Rattle.cs_syntax.specs.Ends.{past_digits}
use Rattle.cs_syntax.proofs.number.past_digits.Given as goal

abbrev pub invariant-loop-end : goal.invariant-loop-end
invariant-loop-end l =
    record {
      same : past_digits l.bytes l.end
          ≡ past_digits l.bytes l.at;
      from : l.at ≤ l.end;
      to : l.end ≤ length l.bytes;
    }

abbrev pub decreases-loop-end : goal.decreases-loop-end
decreases-loop-end l = length l.bytes - l.end
