use Rattle.std.proofs.Common.{◌≡◌, ◌++◌, map}
use Rattle.std.specs.Vec.Iter.{into_iter_items}
use Rattle.cs_value.specs.View.{tree}
use Rattle.cs_parts.specs.Parts.{item}
use Rattle.cs_parts.proofs.gathering.vals_of.Given as goal

abbrev pub invariant-loop-i : goal.invariant-loop-i
invariant-loop-i l = map tree l.out.items ++ map item (into_iter_items l.i-iterator) ≡ map item (into_iter_items l.initial.i-iterator)
