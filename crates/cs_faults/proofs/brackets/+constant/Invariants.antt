use Rattle.std.proofs.Common.{◌≡◌, drop}
use Rattle.cs_syntax.specs.Brackets.{are_constant}
use Rattle.cs_syntax.specs.Expression.{operands_of}
use Rattle.cs_syntax.specs.View.{operands}
use Rattle.cs_faults.proofs.brackets.+constant.Given as goal

abbrev pub invariant-are_constant-loop-sign : goal.invariant-are_constant-loop-sign
invariant-are_constant-loop-sign l = are_constant (operands_of (operands l.rest))
    ≡ are_constant (operands_of (operands (drop l.sign-index l.rest)))
