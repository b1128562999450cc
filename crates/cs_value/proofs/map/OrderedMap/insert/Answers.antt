use Rattle.cs_value.specs.Entries.{entries}
use Rattle.cs_value.proofs.Ascents.{Ascend-put}
use Rattle.cs_value.proofs.map.OrderedMap.insert.Goals as goal

pub invariant_of-self : goal.invariant_of-self
invariant_of-self g c =
    Ascend-put c.insert.result (entries c.self.inside.stored)
    (entries c.insert.new.self) c.args.name c.args.value
    c.self.invariant c.insert.ensures.entries c.insert.ensures.kept
