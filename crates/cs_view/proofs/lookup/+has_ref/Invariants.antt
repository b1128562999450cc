use Rattle.std.proofs.Common.{◌≡◌, drop}
use Rattle.cs_value.specs.Tree.{trees}
use Rattle.cs_value.specs.View.{fields, list_tree, entries_tree}
use Rattle.cs_view.specs.Keys.{some_has_ref, some_pair_has_ref}
use Rattle.cs_view.proofs.lookup.+has_ref.Given as goal

abbrev pub invariant-some_has_ref-loop-item : goal.invariant-some_has_ref-loop-item
invariant-some_has_ref-loop-item l = some_has_ref l.target (trees (list_tree (drop l.item-index l.item-items))) ≡ some_has_ref l.target (trees (list_tree l.item-items))

abbrev pub invariant-some_pair_has_ref-loop-member : goal.invariant-some_pair_has_ref-loop-member
invariant-some_pair_has_ref-loop-member l = some_pair_has_ref l.target (entries_tree l.member-iterator) ≡ some_pair_has_ref l.target (fields l.object)
