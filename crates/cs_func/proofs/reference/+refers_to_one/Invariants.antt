use Rattle.std.proofs.Common.{◌≡◌, drop, map}
use Rattle.cs_value.specs.Tree.{trees}
use Rattle.cs_value.specs.View.{fields, list_tree, entries_tree}
use Rattle.cs_func.specs.Refers.{some_refers_to_one, some_pair_refers_to_one}
use Rattle.cs_func.proofs.reference.+refers_to_one.Given as goal

abbrev pub invariant-some_refers-loop-item : goal.invariant-some_refers-loop-item
invariant-some_refers-loop-item l = some_refers_to_one (map (λ t. t.now) l.targets) (trees (list_tree (drop l.item-index l.item-items))) ≡ some_refers_to_one (map (λ t. t.now) l.targets) (trees (list_tree l.item-items))

abbrev pub invariant-some_pair_refers-loop-member : goal.invariant-some_pair_refers-loop-member
invariant-some_pair_refers-loop-member l = some_pair_refers_to_one (map (λ t. t.now) l.targets) (entries_tree l.member-iterator) ≡ some_pair_refers_to_one (map (λ t. t.now) l.targets) (fields l.object)
