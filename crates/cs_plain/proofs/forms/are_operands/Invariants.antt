use Rattle.std.proofs.Common.{◌≡◌, map, drop}
use Rattle.cs_syntax.specs.Expression.{arguments_of}
use Rattle.cs_syntax.specs.View.{argument_of}
use Rattle.cs_plain.specs.Plain.{are_operands}
use Rattle.cs_plain.proofs.forms.are_operands.Given as goal

abbrev pub invariant-loop-arg : goal.invariant-loop-arg
invariant-loop-arg l = are_operands (arguments_of (map argument_of l.args))
    ≡ are_operands (arguments_of (map argument_of (drop l.arg-index l.args)))
