use Rattle.std.proofs.Common.{length, ◌-◌, ◌≡◌, ◌+◌}
use Rattle.cs_syntax.specs.Ends.{text_end}
use Rattle.cs_syntax.proofs.text.text_end.Given as goal

abbrev pub invariant-loop-end : goal.invariant-loop-end
invariant-loop-end l = record {
  same : text_end l.bytes l.quote l.end ≡ text_end l.bytes l.quote (l.at + 1);
}

abbrev pub decreases-loop-end : goal.decreases-loop-end
decreases-loop-end l = length l.bytes - l.end
