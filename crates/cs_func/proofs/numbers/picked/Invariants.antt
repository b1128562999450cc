use Rattle.std.proofs.Common.{◌≡◌, drop, if◌then◌else◌, None}
use Rattle.std.specs.Int.{int_min, int_max}
use Rattle.cs_value.specs.View.{list_tree}
use Rattle.cs_func.proofs.NumberLists.{best_from}
use Rattle.cs_func.proofs.numbers.picked.Given as goal

abbrev pub invariant-loop-item : goal.invariant-loop-item
invariant-loop-item l =
    best_from (if l.greatest then int_max else int_min) l.best (list_tree (drop l.item-index l.item-items)) ≡ best_from (if l.greatest then int_max else int_min) None (list_tree l.item-items)
