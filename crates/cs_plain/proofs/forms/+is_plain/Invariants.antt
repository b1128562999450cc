use Rattle.std.proofs.Common.{◌≡◌, drop}
use Rattle.cs_syntax.specs.Expression.{operands_of}
use Rattle.cs_syntax.specs.View.{operands}
use Rattle.cs_plain.specs.Plain.{are_junctions}
use Rattle.cs_plain.proofs.forms.+is_plain.Given as goal

abbrev pub invariant-are_junctions-loop-sign : goal.invariant-are_junctions-loop-sign
invariant-are_junctions-loop-sign l = are_junctions (operands_of (operands l.rest))
    ≡ are_junctions (operands_of (operands (drop l.sign-index l.rest)))
