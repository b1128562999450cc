use Rattle.std.proofs.Common.{◌≡◌, drop}
use Rattle.std_collections.specs.Layout.BTreeMap.{seek}
use Rattle.cs_value.specs.Entries.{compares}
use Rattle.cs_value.proofs.Rows.{further}
use Rattle.cs_value.proofs.map.row.place.Given as goal

abbrev pub invariant-loop-at : goal.invariant-loop-at
invariant-loop-at g l =
    seek (compares l.name) l.row ≡ further l.at (seek (compares l.name) (drop l.at l.row))
