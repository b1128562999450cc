use Rattle.std.proofs.Common.{◌≡◌, length}
use Rattle.cs_plain.specs.Truths.{flipped}
use Rattle.cs_plain.proofs.conditions.flipped.Given as goal

abbrev pub invariant-loop-sign : goal.invariant-loop-sign
invariant-loop-sign l = flipped l.left l.truth ≡ flipped l.signs l.fn.a

abbrev pub decreases-loop-sign : goal.decreases-loop-sign
decreases-loop-sign l = length l.left
