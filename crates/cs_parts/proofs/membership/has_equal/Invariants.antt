use Rattle.std.proofs.Common.{◌≡◌, drop, map}
use Rattle.std.specs.List.{list_any}
use Rattle.cs_value.specs.View.{tree}
use Rattle.cs_ops.specs.Equal.{equal}
use Rattle.cs_parts.proofs.membership.has_equal.Given as goal

abbrev pub invariant-loop-part : goal.invariant-loop-part
invariant-loop-part l = list_any (λ t. equal t (tree l.val)) (map (λ r. tree r.now) (drop l.part-index l.parts)) ≡ list_any (λ t. equal t (tree l.val)) (map (λ r. tree r.now) l.parts)
