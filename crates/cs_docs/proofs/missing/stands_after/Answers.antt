use Rattle.std.proofs.Common.{◌≡◌, option_map, Some, sym, ap, ◌∙◌}
use Rattle.std.specs.FinMap.Entries.{find}
use Rattle.cs_view.specs.Dataset.{id_cmp}
use Rattle.cs_view.specs.View.{edit, edits, document_of}
use Rattle.cs_docs.proofs.Standing.{stands_changed}
use Rattle.cs_docs.specs.Store.{docs}
use Rattle.cs_docs.proofs.Walks.{is_some_map}
use Rattle.cs_docs.proofs.missing.stands_after.Goals as goal

pub returns-in-Some : goal.returns-in-Some
returns-in-Some c =
    let x = c.in-Some.change.now in
    let found : find id_cmp c.args.id.now (edits c.args.changes.now) ≡ Some (edit x).1 = sym c.change_of.ensures ∙ ap (option_map (λ y. (edit y.now).1)) c.in-Some.is in
    c.is_some.ensures ∙ sym (is_some_map document_of x.after) ∙ sym (stands_changed c.args.id.now (docs c.args.store.now) (edits c.args.changes.now) (edit x).1 c.requires found)
