use Rattle.std.proofs.Common.{◌≡◌, ◌+◌, ◌≤◌, ◌++◌, length, reverse}
use Rattle.std.specs.Vec.{vec_capacity}
use Rattle.std.specs.Map.{keys_of}
use Rattle.cs_value.specs.Entries.{named}
use Rattle.cs_value.proofs.map.grow.refill.Given as goal

abbrev pub invariant-loop-value : goal.invariant-loop-value
invariant-loop-value g l =
    (l.row.items ++ named l.value-iterator ≡ l.initial.row.items ++ named l.fn.tree.entries)
    × (length l.row.items + length l.value-iterator ≤ vec_capacity l.row)
    × (reverse l.names.items ≡ keys_of (named l.value-iterator))
