use Rattle.std.proofs.Common.{◌≡◌, length}
use Rattle.cs_plain.specs.Plain.{all_not}
use Rattle.cs_plain.proofs.forms.all_not.Given as goal

abbrev pub invariant-loop-sign : goal.invariant-loop-sign
invariant-loop-sign l = all_not l.signs ≡ all_not l.left

abbrev pub decreases-loop-sign : goal.decreases-loop-sign
decreases-loop-sign l = length l.left
