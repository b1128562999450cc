use Rattle.std.proofs.Common.{length, ◌-◌, string_bytes}
use Rattle.std.specs.Str.{IsCharBoundary}
use Rattle.cs_syntax.proofs.Unescaped.{Means}
use Rattle.cs_syntax.proofs.decode.unescape.Given as goal

abbrev pub invariant-loop-at : goal.invariant-loop-at
invariant-loop-at l = record {
  means : Means l.source l.at (string_bytes l.text);
  boundary : IsCharBoundary l.source l.at;
}

abbrev pub decreases-loop-at : goal.decreases-loop-at
decreases-loop-at l = length l.bytes - l.at
