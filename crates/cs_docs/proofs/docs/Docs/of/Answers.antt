use Rattle.std.proofs.Common.{◌≡◌, ◌∙◌, [], List, length, ◌≤◌, true, sym, ap, subst}
use Rattle.cs_value.specs.Tree.{Tree}
use Rattle.cs_view.specs.Changes.{Edit, after_changes}
use Rattle.cs_view.specs.Dataset.{ascending}
use Rattle.cs_shelf.specs.View.{documents}
use Rattle.cs_docs.specs.Limits.{most_documents}
use Rattle.cs_docs.specs.References.{clean}
use Rattle.cs_docs.specs.Store.{prepared}
use Rattle.cs_docs.proofs.Installs.{ascending-put, all_put, fits-clean, fits-within}
use Rattle.cs_docs.proofs.docs.Docs.of.Goals as goal

pub of-requires : goal.of-requires
of-requires c =
    subst (λ (ds : List Tree). ascending ds ≡ true) (sym c.in_ok-documents.ensures)
    (ascending-put (prepared c.args.prepared) c.args.prepared.ordered)

pub invariant_of-result : goal.invariant_of-result
invariant_of-result c =
    let cs : List Edit = prepared c.args.prepared in
    let is : documents c.in_ok-shelf.shelf ≡ after_changes [] cs = c.in_ok-shelf.ensures ∙ c.in_ok-documents.ensures ∙ all_put cs c.args.prepared.ordered in
    record {
      clean = ap clean is ∙ fits-clean (after_changes [] cs) c.requires.holds;
      within = subst (λ (ds : List Tree). length ds ≤ most_documents) (sym is) (fits-within (after_changes [] cs) c.requires.holds);
    }

pub returns : goal.returns
returns c =
    c.in_ok-shelf.ensures ∙ c.in_ok-documents.ensures ∙ all_put (prepared c.args.prepared) c.args.prepared.ordered
