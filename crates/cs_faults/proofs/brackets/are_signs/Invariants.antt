use Rattle.std.proofs.Common.{◌≡◌, drop}
use Rattle.cs_syntax.specs.Brackets.{are_signs}
use Rattle.cs_faults.proofs.brackets.are_signs.Given as goal

abbrev pub invariant-loop-sign : goal.invariant-loop-sign
invariant-loop-sign l = are_signs l.signs ≡ are_signs (drop l.sign-index l.signs)
