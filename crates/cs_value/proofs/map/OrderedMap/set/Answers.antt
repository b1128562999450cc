use Rattle.cs_value.specs.Entries.{entries}
use Rattle.cs_value.proofs.Ascents.{Ascend-put}
use Rattle.cs_value.proofs.map.OrderedMap.set.Goals as goal

pub invariant_of-self : goal.invariant_of-self
invariant_of-self g c =
    Ascend-put c.set.result (entries c.self.inside.stored)
    (entries c.set.new.self) c.args.name c.args.value
    c.self.invariant c.set.ensures.entries c.set.ensures.kept
