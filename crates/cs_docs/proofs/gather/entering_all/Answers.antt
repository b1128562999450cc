use Rattle.std.proofs.Common.{◌∙◌, [], ap, sym, subst}
use Rattle.cs_view.specs.Changes.{are_changes, LeadFrom, after_changes}
use Rattle.cs_docs.proofs.Gathering.{are_entering, lead_entering, after_entering}
use Rattle.cs_docs.proofs.gather.entering_all.Goals as goal

pub returns-clause-changes : goal.returns-clause-changes
returns-clause-changes c = ap are_changes c.in_ok-changes.ensures ∙ are_entering c.args.documents.items c.requires

pub returns-clause-leads : goal.returns-clause-leads
returns-clause-leads c = subst (LeadFrom []) (sym c.in_ok-changes.ensures) (lead_entering c.args.documents.items)

pub returns-clause-after : goal.returns-clause-after
returns-clause-after c = ap (after_changes []) c.in_ok-changes.ensures ∙ after_entering c.args.documents.items c.requires
