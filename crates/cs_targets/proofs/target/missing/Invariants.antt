use Rattle.std.proofs.Common.{◌≡◌, ℕ, List, ◌++◌, drop, map, filter}
use Rattle.cs_targets.specs.Seen.{seen, is_missing}
use Rattle.cs_targets.proofs.target.missing.Given as goal

abbrev pub invariant-loop-target : goal.invariant-loop-target
invariant-loop-target l =
    (ns : List (List ℕ)) → map (λ t. seen ns t.now) l.kept.items ++ filter is_missing (map (λ t. seen ns t.now) (drop l.target-index l.targets)) ≡ filter is_missing (map (λ t. seen ns t.now) l.targets)
