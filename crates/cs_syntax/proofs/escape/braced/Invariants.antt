use Rattle.std.proofs.Common.{length, ◌-◌, ◌≡◌, ◌+◌, ◌≤◌, ◌<◌, drop}
use Rattle.cs_syntax.specs.Escapes.{braced}
use Rattle.cs_syntax.specs.Ends.{placed, braced_at, above}
use Rattle.cs_syntax.proofs.escape.braced.Given as goal

abbrev pub invariant-loop-digits : goal.invariant-loop-digits
invariant-loop-digits l = record {
  same : placed l.at (braced l.number l.digits (drop (l.at + 2 + l.digits) l.bytes))
      ≡ braced_at l.bytes l.at;
  small : l.number < above l.digits;
  few : l.digits ≤ 6;
  to : l.at + 2 + l.digits ≤ length l.bytes;
}

abbrev pub decreases-loop-digits : goal.decreases-loop-digits
decreases-loop-digits l = length l.bytes - (l.at + 2 + l.digits)
