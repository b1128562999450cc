use Rattle.std.proofs.Common.{List, ℕ, option_map, Some, None, sym, ap, ◌∙◌}
use Rattle.cs_value.specs.Tree.{Tree}
use Rattle.cs_view.specs.View.{document_of}
use Rattle.cs_docs.specs.References.{strong}
use Rattle.cs_docs.specs.Missing.{first_missing}
use Rattle.cs_docs.specs.Store.{after}
use Rattle.cs_docs.proofs.Walks.{no_pair, pair_of}
use Rattle.cs_docs.proofs.dangling.first_found.Goals as goal

pub returns-in_err-from : goal.returns-in_err-from
returns-in_err-from g c =
    ap (option_map (λ d. (d.from.now, d.to.now))) c.from_residual.ensures ∙ no_pair (after c.args.store.now c.args.changes.now) _ c.first_document.ensures (ap (option_map (λ d. document_of d.now)) c.in_err-from.was)

pub returns-in_err-to : goal.returns-in_err-to
returns-in_err-to g c =
    let docs_after : List Tree = after c.args.store.now c.args.changes.now in
    let d : Tree = document_of c.in_ok-from.from.now in
    ap (option_map (λ d. (d.from.now, d.to.now))) c.from_residual-in_err-to.ensures
    ∙ pair_of docs_after _ d None c.first_document.ensures (ap (option_map (λ d. document_of d.now)) c.in_ok-from.was)
    (sym (ap (option_map (λ t. t.now)) c.in_err-to.was) ∙ c.first_missing.ensures ∙ ap (λ x. first_missing docs_after (strong x)) c.val.ensures)

pub returns : goal.returns
returns g c =
    let docs_after : List Tree = after c.args.store.now c.args.changes.now in
    let d : Tree = document_of c.in_ok-from.from.now in
    ap (λ (k : List ℕ). Some (k, c.in_ok-to.to.now)) c.id.ensures
    ∙ pair_of docs_after _ d (Some c.in_ok-to.to.now) c.first_document.ensures (ap (option_map (λ d. document_of d.now)) c.in_ok-from.was)
    (sym (ap (option_map (λ t. t.now)) c.in_ok-to.was) ∙ c.first_missing.ensures ∙ ap (λ x. first_missing docs_after (strong x)) c.val.ensures)
