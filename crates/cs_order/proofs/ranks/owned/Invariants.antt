use Rattle.std.proofs.Common.{◌≡◌, ◌++◌, map}
use Rattle.std.specs.Vec.Iter.{into_iter_items}
use Rattle.cs_parts.specs.Parts.{item}
use Rattle.cs_order.proofs.ranks.owned.Given as goal

abbrev pub invariant-loop-key : goal.invariant-loop-key
invariant-loop-key l = map item l.out.items ++ map item (into_iter_items l.key-iterator) ≡ map item (into_iter_items l.initial.key-iterator)
