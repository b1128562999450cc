use Rattle.std.proofs.Common.{◌≡◌, drop}
use Rattle.std.specs.Map.{lookup}
use Rattle.std.specs.BTreeMap.{is_at}
use Rattle.cs_value.specs.Entries.{compares}
use Rattle.cs_value.proofs.map.row.get.Given as goal

abbrev pub invariant-loop-other : goal.invariant-loop-other
invariant-loop-other g l =
    lookup (is_at (compares l.name)) l.row
    ≡ lookup (is_at (compares l.name)) (drop l.other-index l.row)
