use Rattle.std.proofs.Common.{◌≡◌, ◌+◌, ◌≤◌, ◌++◌, length, reverse}
use Rattle.std.specs.Vec.{vec_capacity}
use Rattle.std.specs.Map.{keys_of}
use Rattle.cs_value.specs.Entries.{named}
use Rattle.cs_value.proofs.map.grow.fill.Given as goal

abbrev pub invariant-loop-name : goal.invariant-loop-name
invariant-loop-name g l =
    (l.row.items ++ named l.tree.entries
    ≡ l.initial.row.items ++ named l.initial.tree.entries)
    × (length l.row.items + length l.tree.entries ≤ vec_capacity l.row)
    × (length l.row.items + length l.names.items ≤ vec_capacity l.names)
    × (reverse l.names.items ≡ keys_of (named l.tree.entries))

abbrev pub decreases-loop-name : goal.decreases-loop-name
decreases-loop-name g l = length l.row.items
