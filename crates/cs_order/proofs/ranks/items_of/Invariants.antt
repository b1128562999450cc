use Rattle.std.proofs.Common.{◌≡◌, ◌++◌, map}
use Rattle.std.specs.Vec.Iter.{into_iter_items}
use Rattle.cs_parts.specs.Parts.{item}
use Rattle.cs_order.specs.Ranked.{ranked}
use Rattle.cs_order.proofs.ranks.items_of.Given as goal

abbrev pub invariant-loop-one : goal.invariant-loop-one
invariant-loop-one l = map item l.out.items ++ map (λ x. x.item) (map ranked (into_iter_items l.one-iterator)) ≡ map (λ x. x.item) (map ranked (into_iter_items l.initial.one-iterator))
