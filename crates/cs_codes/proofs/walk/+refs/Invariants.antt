use Rattle.std.proofs.Common.{◌≡◌, ◌++◌, drop}
use Rattle.cs_value.specs.Tree.{trees}
use Rattle.cs_value.specs.View.{list_tree, entries_tree, fields}
use Rattle.cs_codes.specs.Codes.{trees_refs, pairs_refs}
use Rattle.cs_codes.proofs.walk.+refs.Given as goal

abbrev pub invariant-put_field_refs-loop-member : goal.invariant-put_field_refs-loop-member
invariant-put_field_refs-loop-member l =
    l.out.items ++ pairs_refs l.seed (entries_tree l.member-iterator)
    ≡ l.fn.out.items ++ pairs_refs l.seed (fields l.object)

abbrev pub invariant-put_item_refs-loop-item : goal.invariant-put_item_refs-loop-item
invariant-put_item_refs-loop-item l =
    l.out.items ++ trees_refs l.seed (trees (list_tree (drop l.item-index l.item-items)))
    ≡ l.fn.out.items ++ trees_refs l.seed (trees (list_tree l.item-items))
