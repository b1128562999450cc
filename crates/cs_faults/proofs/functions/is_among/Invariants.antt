use Rattle.std.proofs.Common.{◌≡◌, map, drop}
use Rattle.std.specs.List.{list_any}
use Rattle.std.specs.Str.{bytes_eq}
use Rattle.cs_faults.proofs.functions.is_among.Given as goal

abbrev pub invariant-loop-other : goal.invariant-loop-other
invariant-loop-other l = list_any (λ other. bytes_eq l.name other) (map (λ o. o.now) l.others)
    ≡ list_any (λ other. bytes_eq l.name other) (map (λ o. o.now) (drop l.other-index l.others))
