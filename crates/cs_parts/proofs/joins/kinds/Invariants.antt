use Rattle.std.proofs.Common.{◌≡◌, ◌≤◌, drop, length, map}
use Rattle.cs_syntax.specs.Expression.{steps_of}
use Rattle.cs_syntax.specs.View.{step_of}
use Rattle.cs_meaning.specs.Joining.{kind}
use Rattle.cs_parts.specs.Kinds.{kinds_of}
use Rattle.std.proofs.Common.{reverse}
use Rattle.cs_parts.proofs.joins.kinds.Given as goal

abbrev pub invariant-loop-at : goal.invariant-loop-at
invariant-loop-at l = record {
  inside : l.at ≤ length l.steps;
  kind : l.kind ≡ kind (steps_of (map step_of (drop l.at l.steps)));
  found : reverse l.found.items ≡ kinds_of (map step_of (drop l.at l.steps));
}

abbrev pub decreases-loop-at : goal.decreases-loop-at
decreases-loop-at l = l.at
