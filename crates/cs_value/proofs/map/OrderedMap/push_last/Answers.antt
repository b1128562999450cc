use Rattle.std.proofs.Common.{[], ◌∷◌, ◌++◌, subst, sym}
use Rattle.cs_value.specs.Entries.{Ascend, entries}
use Rattle.cs_value.proofs.Ascents.{Ascend-last}
use Rattle.cs_value.proofs.map.OrderedMap.push_last.Goals as goal

pub invariant_of-self : goal.invariant_of-self
invariant_of-self g c =
    let old = entries c.self.inside.stored in
    let ascends : Ascend (old ++ (c.args.name, c.args.value) ∷ []) =
    subst (λ es. Ascend (es ++ (c.args.name, c.args.value) ∷ [])) (sym c.self.view_is) c.requires in
    Ascend-last c.push_last.result old (entries c.push_last.new.self)
    (c.args.name, c.args.value) c.self.invariant ascends c.push_last.ensures.last
    c.push_last.ensures.kept
