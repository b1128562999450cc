use Rattle.std.proofs.Common.{◌≡◌, ◌++◌, drop, map}
use Rattle.cs_jsonmatch.specs.declared.places.Part.TheVariants.{Name}
use Rattle.cs_targets.proofs.target.location.Given as goal

abbrev pub invariant-loop-name : goal.invariant-loop-name
invariant-loop-name l = l.parts.items ++ map Name (drop l.name-index l.names) ≡ l.fn.place ++ map Name l.names
