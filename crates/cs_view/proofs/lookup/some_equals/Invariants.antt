use Rattle.std.proofs.Common.{◌≡◌, drop}
use Rattle.std.specs.List.{list_any}
use Rattle.cs_value.specs.View.{list_tree}
use Rattle.cs_view.specs.Keys.{equals}
use Rattle.cs_view.proofs.lookup.some_equals.Given as goal

abbrev pub invariant-loop-item : goal.invariant-loop-item
invariant-loop-item l = list_any (equals l.scalar) (list_tree (drop l.item-index l.item-items)) ≡ list_any (equals l.scalar) (list_tree l.item-items)
