use Rattle.std.proofs.Common.{◌≡◌, take}
use Rattle.cs_value.specs.View.{list_tree}
use Rattle.cs_alter.proofs.insert.copy_all.Given as goal

abbrev pub invariant-loop-item : goal.invariant-loop-item
invariant-loop-item l = list_tree l.copies.items ≡ list_tree (take l.item-index l.items)
