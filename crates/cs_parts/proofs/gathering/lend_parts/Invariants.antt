use Rattle.std.proofs.Common.{◌≡◌, ◌++◌, map}
use Rattle.std.specs.Vec.Iter.{into_iter_items}
use Rattle.cs_value.specs.View.{tree}
use Rattle.cs_parts.specs.Parts.{item}
use Rattle.cs_parts.proofs.gathering.lend_parts.Given as goal

abbrev pub invariant-loop-part : goal.invariant-loop-part
invariant-loop-part l = map item l.out.items ++ map (λ r. tree r.now) (into_iter_items l.part-iterator) ≡ map (λ r. tree r.now) (into_iter_items l.initial.part-iterator)
