use Rattle.std.proofs.Common.{◌≡◌, ◌++◌, map}
use Rattle.std.specs.Vec.Iter.{into_iter_items}
use Rattle.cs_value.specs.View.{tree}
use Rattle.cs_parts.specs.Parts.{item}
use Rattle.cs_parts.proofs.gathering.make_all.Given as goal

abbrev pub invariant-loop-val : goal.invariant-loop-val
invariant-loop-val l = map item l.out.items ++ map tree (into_iter_items l.val-iterator) ≡ map tree (into_iter_items l.initial.val-iterator)
