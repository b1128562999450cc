use Rattle.std.proofs.Common.{◌≡◌, List, subst}
use Rattle.std.specs.Prelude.{OnOk}
use Rattle.cs_view.specs.Changes.{Edit, after_changes}
use Rattle.cs_shelf.specs.View.{documents}
use Rattle.cs_docs.specs.Store.{prepared}
use Rattle.cs_docs.proofs.Installs.{on_holding}
use Rattle.cs_docs.proofs.docs.Docs.install.Goals as goal

pub invariant_of-self : goal.invariant_of-self
invariant_of-self c =
    let self = c.args.self.now in
    let now = documents c.install.new.shelf in
    let holds = on_holding c.install.result (documents self.shelf) now (prepared c.args.prepared.now)
    (subst (λ (cs : List Edit). OnOk c.install.result (now ≡ after_changes (documents self.shelf) cs)) c.changes.ensures c.install.ensures.installed) c.install.ensures.kept c.requires self.clean self.within in
    record { clean = holds.0; within = holds.1 }
