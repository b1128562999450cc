use Rattle.std.proofs.Common.{◌≡◌, ℕ, List, ◌++◌, drop, map, filter, not}
use Rattle.std.specs.List.{list_any}
use Rattle.cs_alter.specs.Within.{is_inside}
use Rattle.cs_targets.specs.Seen.{seen, outer_seen}
use Rattle.cs_targets.proofs.outer.outside_all.Given as goal

abbrev pub invariant-loop-target : goal.invariant-loop-target
invariant-loop-target l =
    (ns : List (List ℕ)) → map (λ t. seen ns t.now) l.kept.items ++ filter (λ x. not (list_any (λ y. is_inside x.location y.location) (map (seen ns) l.targets))) (map (seen ns) (drop l.target-index l.targets)) ≡ outer_seen (map (seen ns) l.targets)
