use Rattle.std.proofs.Common.{length, ◌-◌, ◌+◌, ◌≡◌, ◌≤◌, ◌<◌}
use Rattle.cs_syntax.specs.Ends.{past_plain}
use Rattle.cs_syntax.proofs.decode.past_plain.Given as goal

abbrev pub invariant-loop-end : goal.invariant-loop-end
invariant-loop-end l =
    record {
      same : past_plain l.bytes l.quote l.end
          ≡ past_plain l.bytes l.quote (l.at + 1);
      from : l.at < l.end;
      to : l.end ≤ length l.bytes;
    }

abbrev pub decreases-loop-end : goal.decreases-loop-end
decreases-loop-end l = length l.bytes - l.end
