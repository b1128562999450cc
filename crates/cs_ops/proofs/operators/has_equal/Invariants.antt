use Rattle.std.proofs.Common.{◌≡◌, take, false}
use Rattle.std.specs.List.{list_any}
use Rattle.cs_value.specs.View.{tree, list_tree}
use Rattle.cs_ops.specs.Equal.{equal}
use Rattle.cs_ops.proofs.operators.has_equal.Given as goal

abbrev pub invariant-loop-item : goal.invariant-loop-item
invariant-loop-item l = list_any (λ t. equal t (tree l.a)) (list_tree (take l.item-index l.item-items)) ≡ false
