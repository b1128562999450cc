use Rattle.std.proofs.Common.{◌≡◌, ◌+◌, ◌≤◌, map, drop, length}
use Rattle.cs_parts.specs.Parts.{item}
use Rattle.cs_meaning.specs.Ordered.{by_keys}
use Rattle.cs_order.proofs.ranks.by_keys.Given as goal

abbrev pub invariant-loop-descending : goal.invariant-loop-descending
invariant-loop-descending l = record {
  order : by_keys l.left (drop l.place (map item l.xs)) (drop l.place (map item l.ys)) ≡ by_keys l.directions (map item l.xs) (map item l.ys);
  inside : l.place + length l.left ≤ length l.directions;
}

abbrev pub decreases-loop-descending : goal.decreases-loop-descending
decreases-loop-descending l = length l.left
