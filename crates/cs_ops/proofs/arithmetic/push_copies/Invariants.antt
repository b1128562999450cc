use Rattle.std.proofs.Common.{◌≡◌, ◌++◌, take}
use Rattle.cs_value.specs.View.{list_tree}
use Rattle.cs_ops.proofs.arithmetic.push_copies.Given as goal

abbrev pub invariant-loop-item : goal.invariant-loop-item
invariant-loop-item l = list_tree l.to.items ≡ list_tree l.fn.to.items ++ list_tree (take l.item-index l.item-items)
