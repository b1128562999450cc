use Rattle.std.proofs.Common.{◌≡◌, nat_le, drop}
use Rattle.cs_value.specs.Tree.{trees, trees_depth, pairs_depth}
use Rattle.cs_value.specs.View.{fields, list_tree, entries_tree}
use Rattle.cs_value.proofs.within.+within.Given as goal

abbrev pub invariant-items_within-loop-item : goal.invariant-items_within-loop-item
invariant-items_within-loop-item l =
    nat_le (trees_depth (trees (list_tree l.item-items))) l.deepest ≡ nat_le (trees_depth (trees (list_tree (drop l.item-index l.item-items)))) l.deepest

abbrev pub invariant-pairs_within-loop-member : goal.invariant-pairs_within-loop-member
invariant-pairs_within-loop-member l =
    nat_le (pairs_depth (fields l.object)) l.deepest ≡ nat_le (pairs_depth (entries_tree l.member-iterator)) l.deepest
