use Rattle.std.proofs.Common.{◌≡◌, ◌++◌}
use Rattle.cs_index.specs.Picking.{places_in, under}
use Rattle.cs_index.proofs.narrow.few_under.Given as goal

abbrev pub invariant-loop-entry : goal.invariant-loop-entry
invariant-loop-entry l = l.places.items ++ places_in l.entry-iterator ≡ places_in (under l.entries l.code)
