use Rattle.std.proofs.Common.{◌≡◌, ◌++◌, drop}
use Rattle.cs_value.specs.Tree.{list, object, trees}
use Rattle.cs_value.specs.View.{fields, list_tree, entries_tree}
use Rattle.cs_jsonmatch.specs.Places.{item_trails, pair_trails}
use Rattle.cs_jsonmatch.specs.View.{path_of}
use Rattle.cs_jsonmatch.specs.Walk.{reached}
use Rattle.cs_jsonmatch.specs.View.{locations}
use Rattle.cs_jsonmatch.proofs.walk.+walk.Given as goal

abbrev pub invariant-walk_items-loop-k : goal.invariant-walk_items-loop-k
invariant-walk_items-loop-k l =
    (locations l.found.items ++ reached l.above.items l.waiting (path_of l.steps) (list (trees (list_tree l.items.items))) (item_trails l.k (trees (list_tree (drop l.k l.items.items))))
    ≡ locations l.initial.found.items ++ reached l.initial.above.items l.waiting (path_of l.steps) (list (trees (list_tree l.items.items))) (item_trails 0 (trees (list_tree l.items.items))))
    × (l.above.items ≡ l.initial.above.items)

abbrev pub invariant-walk_pairs-loop-name : goal.invariant-walk_pairs-loop-name
invariant-walk_pairs-loop-name l =
    (locations l.found.items ++ reached l.above.items l.waiting (path_of l.steps) (object (fields l.object)) (pair_trails (entries_tree l.name-iterator))
    ≡ locations l.initial.found.items ++ reached l.initial.above.items l.waiting (path_of l.steps) (object (fields l.object)) (pair_trails (fields l.object)))
    × (l.above.items ≡ l.initial.above.items)
