use Rattle.std.proofs.Common.{length, ◌-◌, ◌≡◌, ◌≤◌}
use Rattle.cs_syntax.specs.Ends.{past_word}
use Rattle.cs_syntax.proofs.longest.past_word.Given as goal

abbrev pub invariant-loop-end : goal.invariant-loop-end
invariant-loop-end l =
    record { same : past_word l.bytes l.end ≡ past_word l.bytes l.at; to : l.end ≤ length l.bytes }

abbrev pub decreases-loop-end : goal.decreases-loop-end
decreases-loop-end l = length l.bytes - l.end
