use Rattle.std.proofs.Common.{◌≡◌, ◌∙◌, List, sym, ap, subst, true}
use Rattle.cs_view.specs.Changes.{Edit, LeadFrom, after_changes, are_changes}
use Rattle.cs_docs.specs.Store.{docs}
use Rattle.cs_index.specs.Index.{IsDelta}
use Rattle.cs_index.proofs.Applied.{refitted}
use Rattle.cs_index.proofs.commit.install.Goals as goal

pub returns-in-Err-clause-fits_still : goal.returns-in-Err-clause-fits_still
returns-in-Err-clause-fits_still c e =
    refitted c.args.index.now.coding c.args.docs.now c.install.new.self c.args.index.now.entries
    c.install.ensures.steady c.in-Err.ensures.kept c.requires.fits

pub returns-in-Ok-apply-clause-fits : goal.returns-in-Ok-apply-clause-fits
returns-in-Ok-apply-clause-fits c =
    let was = c.args.docs.now in
    c.in-Ok-apply.ensures.follows was (record {
      changes = subst (λ (cs : List Edit). are_changes cs ≡ true) (sym c.changes-2.ensures) c.args.prepared.now.ordered;
      leads = subst (λ (cs : List Edit). LeadFrom (docs was) cs) (sym c.changes-2.ensures) c.requires.taken.leads;
      after = c.in-Ok-install.ensures.installed ∙ ap (after_changes (docs was)) (sym c.changes-2.ensures);
      steady = c.install.ensures.steady;
    })
    (subst (λ (cs : List Edit). IsDelta c.args.index.now was cs c.in-Ok.delta) (c.changes.ensures ∙ sym c.changes-2.ensures) c.in-Ok.ensures)
    c.requires.fits
