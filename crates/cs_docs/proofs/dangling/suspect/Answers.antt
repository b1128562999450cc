use Rattle.std.proofs.Common.{option_map, Some, None, cond, sym, ap, ◌∙◌}
use Rattle.cs_view.specs.View.{document_of, edit, edits}
use Rattle.cs_shelf.proofs.Standing.{ascending-documents}
use Rattle.cs_docs.specs.Store.{docs}
use Rattle.cs_docs.proofs.Walks.{put_suspect, taken_suspect}
use Rattle.cs_docs.proofs.dangling.suspect.Goals as goal

pub returns-then-dangles : goal.returns-then-dangles
returns-then-dangles g c =
    sym (put_suspect (docs c.args.store.now) (edits c.args.changes.now) (edit c.args.change.now) (document_of c.in-Some.put) (ascending-documents c.args.store.now.shelf) c.requires.changes c.requires.one (ap (option_map document_of) c.in-Some.is)
    ∙ ap (λ b. cond b (Some (document_of c.in-Some.put)) None) (sym c.dangles.ensures ∙ c.if-dangles.true))

pub returns-else-dangles : goal.returns-else-dangles
returns-else-dangles g c =
    sym (put_suspect (docs c.args.store.now) (edits c.args.changes.now) (edit c.args.change.now) (document_of c.in-Some.put) (ascending-documents c.args.store.now.shelf) c.requires.changes c.requires.one (ap (option_map document_of) c.in-Some.is)
    ∙ ap (λ b. cond b (Some (document_of c.in-Some.put)) None) (sym c.dangles.ensures ∙ c.if-dangles.false))

pub returns-in-None : goal.returns-in-None
returns-in-None g c =
    c.removed_referrer.ensures ∙ sym (taken_suspect (docs c.args.store.now) (edits c.args.changes.now) (edit c.args.change.now) (ascending-documents c.args.store.now.shelf) c.requires.changes (ap (option_map document_of) c.in-None.is))
