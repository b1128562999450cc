use Rattle.std.proofs.Common.{◌≡◌, ◌++◌, map, length}
use Rattle.cs_syntax.specs.Expression.{keys_of}
use Rattle.cs_syntax.specs.View.{order_key_of}
use Rattle.cs_meaning.specs.Ordered.{directions}
use Rattle.cs_parts.proofs.listed.directions.Given as goal

abbrev pub invariant-loop-first : goal.invariant-loop-first
invariant-loop-first l = l.out.items ++ directions (keys_of (map order_key_of l.left)) ≡ directions (keys_of (map order_key_of l.order))

abbrev pub decreases-loop-first : goal.decreases-loop-first
decreases-loop-first l = length l.left
