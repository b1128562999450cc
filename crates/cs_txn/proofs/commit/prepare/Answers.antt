use Rattle.std.proofs.Common.{◌≡◌, ◌∙◌, List, ap, subst, sym}
use Rattle.cs_value.specs.Tree.{Tree}
use Rattle.cs_view.specs.Changes.{after_changes, LeadFrom}
use Rattle.cs_view.specs.View.{edits}
use Rattle.cs_docs.specs.Faults.{IsFault}
use Rattle.cs_docs.specs.Store.{docs, prepared}
use Rattle.cs_docs.specs.Verdict.{verdict, AreTaken}
use Rattle.cs_docs.specs.declared.docs.Docs.{Docs}
use Rattle.cs_index.specs.View.{store_of}
use Rattle.cs_working.specs.Working.{working}
use Rattle.cs_txn.specs.Commit.{folded}
use Rattle.cs_txn.specs.View.{transaction}
use Rattle.cs_txn.proofs.Committing.{accepted, led, between_again, judged_fits, judged_refused}
use Rattle.cs_txn.proofs.commit.prepare.Goals as goal

pub make-requires-clause-changes : goal.make-requires-clause-changes
make-requires-clause-changes g c =
    (led (store_of c.args.store) c.fold.new.working (edits c.in-Ok.changes.items)
    (c.in_ok-fold.ensures.store ∙ c.of-working.ensures.store) c.in-Ok.ensures).0

pub make-requires-clause-leads : goal.make-requires-clause-leads
make-requires-clause-leads g c =
    let cs = edits c.in-Ok.changes.items in
    subst (λ (d : Docs). LeadFrom (docs d) cs) (sym c.docs.ensures)
    (led (store_of c.args.store) c.fold.new.working cs
    (c.in_ok-fold.ensures.store ∙ c.of-working.ensures.store) c.in-Ok.ensures).1

pub returns-in-Ok-make-clause-accepted : goal.returns-in-Ok-make-clause-accepted
returns-in-Ok-make-clause-accepted g c =
    let store = store_of c.args.store in
    let t = transaction c.args.tx.now c.args.mutations.items in
    let w = c.fold.new.working in
    let facts = led store w (edits c.in-Ok.changes.items)
    (c.in_ok-fold.ensures.store ∙ c.of-working.ensures.store) c.in-Ok.ensures in
    let taken = subst (λ (d : Docs). AreTaken (docs d) (prepared c.in-Ok-make.prepared))
    c.docs.ensures c.in-Ok-make.ensures.1 in
    judged_fits _ (working w) (after_changes (docs store) (prepared c.in-Ok-make.prepared))
    (subst (λ (d : List Tree). folded t.id c.args.moment.now 0 t.actions d ≡ accepted (working w))
    c.of-working.ensures.working c.in_ok-fold.ensures.folded)
    (ap (after_changes (docs store)) c.in-Ok-make.ensures.0 ∙ facts.2) taken.holds

pub returns-in-Ok-make-clause-changes : goal.returns-in-Ok-make-clause-changes
returns-in-Ok-make-clause-changes g c =
    between_again (store_of c.args.store) c.fold.new.working (edits c.in-Ok.changes.items)
    (prepared c.in-Ok-make.prepared) (c.in_ok-fold.ensures.store ∙ c.of-working.ensures.store)
    c.in-Ok.ensures c.in-Ok-make.ensures.0

pub returns-clause-refused : goal.returns-clause-refused
returns-clause-refused g c =
    let store = store_of c.args.store in
    let t = transaction c.args.tx.now c.args.mutations.items in
    let w = c.fold.new.working in
    let cs = edits c.in-Ok.changes.items in
    let facts = led store w cs (c.in_ok-fold.ensures.store ∙ c.of-working.ensures.store)
    c.in-Ok.ensures in
    judged_refused c.refusal_of.result _ (working w) (after_changes (docs store) cs)
    (subst (λ (d : List Tree). folded t.id c.args.moment.now 0 t.actions d ≡ accepted (working w))
    c.of-working.ensures.working c.in_ok-fold.ensures.folded)
    facts.2
    (c.refusal_of.ensures (after_changes (docs store) cs) (verdict (after_changes (docs store) cs))
    (subst (λ (d : Docs). IsFault c.in-Err-make.fault (verdict (after_changes (docs d) cs)))
    c.docs.ensures c.in-Err-make.ensures))
