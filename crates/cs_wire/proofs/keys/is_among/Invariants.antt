use Rattle.std.proofs.Common.{◌≡◌, map, drop}
use Rattle.cs_wire.specs.Commands.{is_among}
use Rattle.cs_wire.proofs.keys.is_among.Given as goal

abbrev pub invariant-loop-other : goal.invariant-loop-other
invariant-loop-other l =
    is_among l.key (map (λ k. k.now) l.keys) ≡ is_among l.key (map (λ k. k.now) (drop l.other-index l.keys))
