use Rattle.std.proofs.Common.{◌≡◌, ◌+◌, ◌≤◌, List, map, drop, length}
use Rattle.cs_value.specs.Tree.{Tree, Pairs}
use Rattle.cs_syntax.specs.Expression.{keys_of}
use Rattle.cs_syntax.specs.View.{order_key_of}
use Rattle.cs_view.specs.Scopes.{scope_of}
use Rattle.cs_meaning.specs.Ordered.{by_keys}
use Rattle.cs_meaning.specs.Values.{keys_values}
use Rattle.cs_parts.specs.Parts.{item}
use Rattle.cs_past.proofs.past.compare_in_scope.Given as goal

abbrev pub invariant-loop-descending : goal.invariant-loop-descending
invariant-loop-descending l = record {
  order : (docs : List Tree) (params : Pairs)
      → by_keys l.left (drop l.place (keys_values docs params (keys_of (map order_key_of l.order)) (scope_of l.frame))) (drop l.place (map item l.bound))
      ≡ by_keys l.directions (keys_values docs params (keys_of (map order_key_of l.order)) (scope_of l.frame)) (map item l.bound);
  inside : l.place + length l.left ≤ length l.directions;
}

abbrev pub decreases-loop-descending : goal.decreases-loop-descending
decreases-loop-descending l = length l.left
