use Rattle.std.proofs.Common.{◌≡◌, ◌∙◌, ◌<◌, ap, sym, subst, refl, map, length, is_some, IfOk}
use Rattle.cs_docs.specs.Limits.{most_documents}
use Rattle.cs_view.specs.Dataset.{stands, with_doc}
use Rattle.cs_view.specs.Document.{id_of}
use Rattle.cs_view.specs.View.{document_of}
use Rattle.cs_load.specs.Gathered.{held, IsKept, HasWay}
use Rattle.cs_load.proofs.Placing.{gap_absent}
use Rattle.cs_load.proofs.Gathering.{pushed, kept_with, kept_after}
use Rattle.cs_load.proofs.loading.collected.Collected.put.Goals as goal

pub returns-in_ok-push-in-InOrder-clause-kept : goal.returns-in_ok-push-in-InOrder-clause-kept
returns-in_ok-push-in-InOrder-clause-kept c =
    let ds = c.in-InOrder.documents.items in
    let kept = subst IsKept c.in-InOrder.is c.requires.kept in
    let way = subst (HasWay (id_of (document_of c.args.document))) c.in-InOrder.is c.requires.way in
    let room = subst (λ s. length (held s) < most_documents) c.in-InOrder.is c.requires.room in
    let put = pushed ds c.push.new.self.items c.args.document way c.in_ok-push-in-InOrder.ensures.items in
    let k = kept_with (document_of c.args.document) (map document_of ds) (map document_of c.push.new.self.items) put kept.1 room in
    (refl, k.0, k.1)

pub returns-in_ok-push-in-InOrder-clause-put : goal.returns-in_ok-push-in-InOrder-clause-put
returns-in_ok-push-in-InOrder-clause-put c =
    let way = subst (HasWay (id_of (document_of c.args.document))) c.in-InOrder.is c.requires.way in
    pushed c.in-InOrder.documents.items c.push.new.self.items c.args.document way c.in_ok-push-in-InOrder.ensures.items
    ∙ ap (λ s. with_doc (document_of c.args.document) (held s)) (sym c.in-InOrder.is)

pub returns-in-ById-clause-kept : goal.returns-in-ById-clause-kept
returns-in-ById-clause-kept c =
    let kept = subst IsKept c.in-ById.is c.requires.kept in
    let room = subst (λ s. length (held s) < most_documents) c.in-ById.is c.requires.room in
    let e = c.put_by_id.ensures in
    let k = kept_after c.put_by_id.result c.in-ById.documents.entries c.put_by_id.new.documents.entries (document_of c.args.document) e.put e.kept kept.1 room in
    (e.by_id, k.0, k.1)

pub returns-in_ok-push-in-InOrder-clause-stood : goal.returns-in_ok-push-in-InOrder-clause-stood
returns-in_ok-push-in-InOrder-clause-stood c =
    let ds = c.in-InOrder.documents.items in
    let way = subst (HasWay (id_of (document_of c.args.document))) c.in-InOrder.is c.requires.way in
    sym (ap (λ s. stands (id_of (document_of c.args.document)) (held s)) c.in-InOrder.is ∙ ap is_some (gap_absent (id_of (document_of c.args.document)) (map document_of ds) (length ds) way))

pub returns-in-ById-clause-stood : goal.returns-in-ById-clause-stood
returns-in-ById-clause-stood c =
    subst (λ s. IfOk c.put_by_id.result (λ b. b ≡ stands (id_of (document_of c.args.document)) (held s))) (sym c.in-ById.is) c.put_by_id.ensures.stood
