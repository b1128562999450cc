use Rattle.std.proofs.Common.{sym, subst}
use Rattle.cs_value.specs.Entries.{Ascend}
use Rattle.cs_value.proofs.Ascents.{empty}
use Rattle.cs_value.proofs.map.OrderedMap.new.Goals as goal

pub invariant_of-result : goal.invariant_of-result
invariant_of-result g c = subst Ascend (sym c.new.ensures) (empty g.row.V.Denot)
