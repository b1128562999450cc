use Rattle.std.proofs.Common.{◌≡◌, ◌++◌, map, drop}
use Rattle.cs_index.proofs.pick.second_of.Given as goal

abbrev pub invariant-loop-hit : goal.invariant-loop-hit
invariant-loop-hit l = l.out.items ++ map (λ h. h.1) (drop l.hit-index l.hit-items) ≡ map (λ h. h.1) l.hit-items
