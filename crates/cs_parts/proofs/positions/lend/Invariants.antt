use Rattle.std.proofs.Common.{◌≡◌, ◌++◌, map, drop}
use Rattle.cs_value.specs.View.{tree}
use Rattle.cs_parts.proofs.positions.lend.Given as goal

abbrev pub invariant-loop-val : goal.invariant-loop-val
invariant-loop-val l = map (λ r. tree r.now) l.out.items ++ map tree (drop l.val-index l.vals) ≡ map tree l.vals
