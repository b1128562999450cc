use Rattle.std.proofs.Common.{◌≡◌, ◌++◌, drop}
use Rattle.cs_value.specs.Tree.{trees}
use Rattle.cs_value.specs.View.{list_tree}
use Rattle.cs_codes.specs.Codes.{elements_codes}
use Rattle.cs_codes.proofs.walk.put_elements.Given as goal

abbrev pub invariant-loop-item : goal.invariant-loop-item
invariant-loop-item l =
    l.out.items ++ elements_codes l.hash (trees (list_tree (drop l.item-index l.item-items)))
    ≡ l.fn.out.items ++ elements_codes l.hash (trees (list_tree l.item-items))
