use Rattle.std.proofs.Common.{◌≡◌, drop}
use Rattle.std.specs.List.{list_any}
use Rattle.cs_value.specs.View.{list_tree}
use Rattle.cs_ops.specs.Equal.{equal}
use Rattle.cs_operand.specs.Operands.{operand}
use Rattle.cs_operand.proofs.compare.has_equal.Given as goal

abbrev pub invariant-loop-item : goal.invariant-loop-item
invariant-loop-item l = list_any (λ t. equal t (operand l.value)) (list_tree (drop l.item-index l.item-items)) ≡ list_any (λ t. equal t (operand l.value)) (list_tree l.item-items)
