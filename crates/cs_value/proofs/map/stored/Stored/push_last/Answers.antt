use Rattle.std.proofs.Common.{[], ◌∷◌, ◌++◌, subst, sym, ap, ◌∙◌}
use Rattle.cs_value.specs.Entries.{Name, Ascend, entries, named}
use Rattle.cs_value.proofs.Ascents.{put_above}
use Rattle.cs_value.proofs.map.stored.Stored.push_last.Goals as goal

pub returns-in-Ok-clause-last : goal.returns-in-Ok-clause-last
returns-in-Ok-clause-last g c =
    let pair : Name × g.row.V.Denot = (c.args.name, c.args.value) in
    let above = subst (λ stored. Ascend (entries stored ++ pair ∷ [])) c.in-Many.is c.requires in
    c.in-Ok.ensures.entries ∙ put_above (named c.in-Many.tree.entries) pair above
    ∙ ap (λ stored. entries stored ++ pair ∷ []) (sym c.in-Many.is)
