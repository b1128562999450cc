use Rattle.std.proofs.Common.{◌≡◌, ◌≤◌, drop, length}
use Rattle.cs_value.specs.View.{tree}
use Rattle.cs_meaning.specs.Operators.{signed}
use Rattle.cs_parts.proofs.literals.signed.Given as goal

abbrev pub invariant-loop-at : goal.invariant-loop-at
invariant-loop-at l = record {
  inside : l.at ≤ length l.signs;
  value : tree l.here ≡ signed (drop l.at l.signs) (tree l.fn.val);
}

abbrev pub decreases-loop-at : goal.decreases-loop-at
decreases-loop-at l = l.at
