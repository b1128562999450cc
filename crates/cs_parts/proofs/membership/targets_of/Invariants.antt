use Rattle.std.proofs.Common.{◌≡◌, ◌++◌, drop, map}
use Rattle.std.specs.Prelude.{flat_map}
use Rattle.cs_meaning.specs.Operators.{targets}
use Rattle.cs_parts.specs.Parts.{got}
use Rattle.cs_parts.proofs.membership.targets_of.Given as goal

abbrev pub invariant-loop-argument : goal.invariant-loop-argument
invariant-loop-argument l = map (λ t. t.now) l.found.items ++ flat_map targets (map got (drop l.argument-index l.arguments)) ≡ flat_map targets (map got l.arguments)
