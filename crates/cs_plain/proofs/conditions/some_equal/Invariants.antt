use Rattle.std.proofs.Common.{◌≡◌, map, length}
use Rattle.cs_syntax.specs.Expression.{elements_of}
use Rattle.cs_syntax.specs.View.{element_of}
use Rattle.cs_value.specs.View.{tree, fields}
use Rattle.cs_operand.specs.Operands.{operand}
use Rattle.cs_plain.specs.Truths.{some_equal}
use Rattle.cs_plain.proofs.conditions.some_equal.Given as goal

abbrev pub invariant-loop-element : goal.invariant-loop-element
invariant-loop-element l = some_equal (fields l.params) (tree l.doc) (elements_of (map element_of l.left)) (operand l.a) ≡ some_equal (fields l.params) (tree l.doc) (elements_of (map element_of l.elements)) (operand l.a)

abbrev pub decreases-loop-element : goal.decreases-loop-element
decreases-loop-element l = length l.left
