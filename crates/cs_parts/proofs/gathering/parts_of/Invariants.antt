use Rattle.std.proofs.Common.{◌≡◌, ◌++◌, map, true}
use Rattle.std.specs.List.{list_all}
use Rattle.std.specs.Vec.Iter.{into_iter_items}
use Rattle.cs_value.specs.View.{tree}
use Rattle.cs_parts.specs.Parts.{item, is_lent}
use Rattle.cs_parts.proofs.gathering.parts_of.Given as goal

abbrev pub invariant-loop-i : goal.invariant-loop-i
invariant-loop-i l = (map (λ r. tree r.now) l.out.items ++ map item (into_iter_items l.i-iterator) ≡ map item (into_iter_items l.initial.i-iterator)) × (list_all is_lent (into_iter_items l.i-iterator) ≡ true)
