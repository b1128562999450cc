use Rattle.std.proofs.Common.{◌≡◌, [], ◌++◌, take, drop}
use Rattle.std.specs.List.{list_any}
use Rattle.cs_value.specs.Tree.{Tree}
use Rattle.cs_value.specs.View.{list_tree}
use Rattle.cs_ops.specs.Equal.{equal}
use Rattle.cs_func.specs.Lists.{distinct}
use Rattle.cs_func.specs.Seen.{has_seen}
use Rattle.cs_func.proofs.lists.distinct.Given as goal

abbrev pub invariant-loop-item : goal.invariant-loop-item
invariant-loop-item l = record {
  kept : list_tree l.kept.items ++ distinct (list_tree (take l.item-index l.item-items)) (list_tree (drop l.item-index l.item-items)) ≡ distinct [] (list_tree l.item-items);
  seen : (t : Tree) → has_seen l.seen t ≡ list_any (equal t) (list_tree (take l.item-index l.item-items));
}
