use Rattle.std.proofs.Common.{◌≡◌, ◌∙◌, ap, sym, subst, is_some}
use Rattle.cs_view.specs.Dataset.{stands}
use Rattle.cs_view.specs.Document.{id_of}
use Rattle.cs_view.specs.View.{document_of}
use Rattle.cs_load.specs.Gathered.{gathered, AreById}
use Rattle.cs_load.proofs.Gathering.{found_id, gathered-insert, by_id-insert}
use Rattle.cs_load.proofs.loading.collected.put_by_id.Goals as goal

pub returns-clause-put : goal.returns-clause-put
returns-clause-put c =
    let key : c.in_ok-id.id ≡ id_of (document_of c.args.document) = c.in_ok-id.ensures ∙ c.id.ensures in
    ap gathered c.in_ok-before.ensures.entries ∙ gathered-insert c.args.documents.now.entries c.in_ok-id.id c.args.document key c.requires.by_id

pub returns-clause-by_id : goal.returns-clause-by_id
returns-clause-by_id c =
    let key : c.in_ok-id.id ≡ id_of (document_of c.args.document) = c.in_ok-id.ensures ∙ c.id.ensures in
    subst AreById (sym c.in_ok-before.ensures.entries) (by_id-insert c.args.documents.now.entries c.in_ok-id.id c.args.document key c.requires.by_id)

pub returns-clause-stood : goal.returns-clause-stood
returns-clause-stood c =
    let key : c.in_ok-id.id ≡ id_of (document_of c.args.document) = c.in_ok-id.ensures ∙ c.id.ensures in
    let es = c.args.documents.now.entries in
    c.is_some.ensures ∙ ap is_some c.in_ok-before.ensures.old ∙ found_id c.in_ok-id.id es c.requires.by_id ∙ ap (λ id. stands id (gathered es)) key
