use Rattle.std.proofs.Common.{◌≡◌, map, is_some, drop}
use Rattle.std.specs.List.{list_all}
use Rattle.cs_value.specs.Pairs.{find}
use Rattle.cs_value.specs.View.{fields}
use Rattle.cs_wire.proofs.keys.has_all.Given as goal

abbrev pub invariant-loop-key : goal.invariant-loop-key
invariant-loop-key l =
    list_all (λ k. is_some (find k (fields l.object))) (map (λ k. k.now) l.keys)
    ≡ list_all (λ k. is_some (find k (fields l.object))) (map (λ k. k.now) (drop l.key-index l.keys))
