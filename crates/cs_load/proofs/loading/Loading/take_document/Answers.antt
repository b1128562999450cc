use Rattle.std.proofs.Common.{◌≡◌, ◌∙◌, ap, sym, subst, true, false}
use Rattle.cs_value.specs.View.{tree}
use Rattle.cs_view.specs.Dataset.{stands, with_doc}
use Rattle.cs_view.specs.Document.{id_of}
use Rattle.cs_view.specs.View.{document_of}
use Rattle.cs_load.specs.Gathered.{HasWay, held}
use Rattle.cs_load.specs.Taking.{IsTaken}
use Rattle.cs_machine.specs.DataFile.{of_outcome, imported}
use Rattle.cs_load.proofs.Importing.{imported_id}
use Rattle.cs_load.proofs.Saying.{body_repeated}
use Rattle.cs_load.proofs.loading.Loading.take_document.Goals as goal

pub put-requires-clause-way : goal.put-requires-clause-way
put-requires-clause-way c =
    subst (λ i. HasWay i c.admit.new.documents) (sym (ap id_of c.in_ok-document.ensures ∙ imported_id (tree c.in_ok-body.body))) c.in_ok-id.ensures.way

pub returns-then-branch-clause-refused : goal.returns-then-branch-clause-refused
returns-then-branch-clause-refused c =
    let docs = held c.args.self.now.documents in
    let body = tree c.in_ok-body.body in
    let same : id_of (document_of c.in_ok-document.document) ≡ id_of body = ap id_of c.in_ok-document.ensures ∙ imported_id body in
    let stood : stands (id_of body) docs ≡ true =
    ap (stands (id_of body)) (sym c.in_ok-id.ensures.same) ∙ ap (λ i. stands i (held c.admit.new.documents)) (sym same) ∙ sym c.in_ok-put.ensures.stood ∙ c.if-branch.true in
    ap (of_outcome docs) c.in_ok-body.ensures.value ∙ body_repeated docs body c.in_ok-id.id c.in_ok-id.ensures.body stood c.in_ok-id.ensures.id

pub returns-clause-taken : goal.returns-clause-taken
returns-clause-taken c =
    let docs = held c.args.self.now.documents in
    let body = tree c.in_ok-body.body in
    let new = held c.put.new.self in
    let same : id_of (document_of c.in_ok-document.document) ≡ id_of body = ap id_of c.in_ok-document.ensures ∙ imported_id body in
    let free : stands (id_of body) docs ≡ false =
    ap (stands (id_of body)) (sym c.in_ok-id.ensures.same) ∙ ap (λ i. stands i (held c.admit.new.documents)) (sym same) ∙ sym c.in_ok-put.ensures.stood ∙ c.if-branch.false in
    let put : new ≡ with_doc (imported body) docs =
    c.in_ok-put.ensures.put ∙ ap (λ d. with_doc d (held c.admit.new.documents)) c.in_ok-document.ensures ∙ ap (with_doc (imported body)) c.in_ok-id.ensures.same in
    subst (λ s. IsTaken s docs new) (sym (ap (of_outcome docs) c.in_ok-body.ensures.value ∙ c.in_ok-id.ensures.admitted free)) put
