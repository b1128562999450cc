use Rattle.std.proofs.Common.{◌≡◌, map, drop, nat_eq}
use Rattle.std.specs.List.{list_any, starts_with}
use Rattle.cs_faults.proofs.functions.begins_with_one.Given as goal

abbrev pub invariant-loop-space : goal.invariant-loop-space
invariant-loop-space l =
    list_any (λ space. starts_with nat_eq l.name space) (map (λ o. o.now) l.spaces)
    ≡ list_any (λ space. starts_with nat_eq l.name space)
    (map (λ o. o.now) (drop l.space-index l.spaces))
