use Rattle.std.proofs.Common.{◌≡◌, ◌++◌}
use Rattle.std.specs.Vec.Iter.{into_iter_items}
use Rattle.cs_alter.specs.Insertions.{unmarked}
use Rattle.cs_alter.proofs.insert.push_unmarked.Given as goal

abbrev pub invariant-loop-item : goal.invariant-loop-item
invariant-loop-item l =
    l.items.items ++ unmarked l.left (into_iter_items l.item-iterator)
    ≡ l.initial.items.items ++ unmarked l.marks l.fn.rest.items
