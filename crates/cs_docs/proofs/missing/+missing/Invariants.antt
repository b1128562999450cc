use Rattle.std.proofs.Common.{◌≡◌, drop}
use Rattle.cs_value.specs.Tree.{trees}
use Rattle.cs_value.specs.View.{fields, list_tree, entries_tree}
use Rattle.cs_docs.specs.References.{strong_items, strong_pairs}
use Rattle.cs_docs.specs.Missing.{first_missing}
use Rattle.cs_docs.specs.Store.{after}
use Rattle.cs_docs.proofs.missing.+missing.Given as goal

abbrev pub invariant-missing_item-loop-item : goal.invariant-missing_item-loop-item
invariant-missing_item-loop-item l =
    first_missing (after l.store l.changes) (strong_items (trees (list_tree l.item-items))) ≡ first_missing (after l.store l.changes) (strong_items (trees (list_tree (drop l.item-index l.item-items))))

abbrev pub invariant-missing_member-loop-member : goal.invariant-missing_member-loop-member
invariant-missing_member-loop-member l =
    first_missing (after l.store l.changes) (strong_pairs (fields l.object)) ≡ first_missing (after l.store l.changes) (strong_pairs (entries_tree l.member-iterator))
