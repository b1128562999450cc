use Rattle.std.proofs.Common.{sym, subst}
use Rattle.std.specs.BTreeMap.{is_at}
use Rattle.cs_value.specs.Entries.{Ascend, entries, compares}
use Rattle.cs_value.proofs.Ascents.{Ascend-remove_entry}
use Rattle.cs_value.proofs.map.OrderedMap.remove.Goals as goal

pub invariant_of-self : goal.invariant_of-self
invariant_of-self g c =
    subst Ascend (sym c.remove.ensures.left)
    (Ascend-remove_entry (is_at (compares c.args.name.now))
    (entries c.self.inside.stored) c.self.invariant)
