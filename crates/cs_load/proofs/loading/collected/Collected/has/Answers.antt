use Rattle.std.proofs.Common.{◌∙◌, ap, sym, subst, map, length, is_some}
use Rattle.cs_view.specs.Dataset.{stands}
use Rattle.cs_view.specs.View.{document_of}
use Rattle.cs_load.specs.Gathered.{held, IsKept, HasWay}
use Rattle.cs_load.proofs.Placing.{gap_absent}
use Rattle.cs_load.proofs.Gathering.{found_id}
use Rattle.cs_load.proofs.loading.collected.Collected.has.Goals as goal

pub returns-in-InOrder : goal.returns-in-InOrder
returns-in-InOrder c =
    let ds = c.in-InOrder.field-0.items in
    let way = subst (HasWay c.args.id.now) c.in-InOrder.is c.requires.way in
    sym (ap (λ s. stands c.args.id.now (held s)) c.in-InOrder.is ∙ ap is_some (gap_absent c.args.id.now (map document_of ds) (length ds) way))

pub returns-in-ById : goal.returns-in-ById
returns-in-ById c =
    let es = c.in-ById.documents.entries in
    let kept = subst IsKept c.in-ById.is c.requires.kept in
    c.contains_key.ensures ∙ found_id c.args.id.now es kept.0
    ∙ ap (λ s. stands c.args.id.now (held s)) (sym c.in-ById.is)
