use Rattle.std.proofs.Common.{◌≡◌, drop, map}
use Rattle.std.specs.List.{list_any}
use Rattle.std.specs.Str.{bytes_eq}
use Rattle.cs_func.proofs.reference.is_among.Given as goal

abbrev pub invariant-loop-target : goal.invariant-loop-target
invariant-loop-target l = list_any (bytes_eq l.text) (map (λ t. t.now) (drop l.target-index l.targets)) ≡ list_any (bytes_eq l.text) (map (λ t. t.now) l.targets)
