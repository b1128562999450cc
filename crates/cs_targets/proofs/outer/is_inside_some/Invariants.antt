use Rattle.std.proofs.Common.{◌≡◌, ◌++◌, take, drop}
use Rattle.cs_targets.specs.Held.{is_held, any_before}
use Rattle.cs_targets.proofs.outer.is_inside_some.Given as goal

abbrev pub invariant-loop-length : goal.invariant-loop-length
invariant-loop-length l =
    any_before (is_held l.held) l.location
    ≡ any_before (λ m. is_held l.held (take l.length l.location ++ m)) (drop l.length l.location)
