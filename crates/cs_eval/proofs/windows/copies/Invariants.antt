use Rattle.std.proofs.Common.{◌≡◌, ◌++◌, map, drop}
use Rattle.cs_value.specs.View.{tree}
use Rattle.cs_parts.specs.Parts.{item}
use Rattle.cs_eval.proofs.windows.copies.Given as goal

abbrev pub invariant-loop-one : goal.invariant-loop-one
invariant-loop-one l = map tree l.vals.items ++ map item (drop l.one-index l.items) ≡ map item l.items
