use Rattle.std.proofs.Common.{◌≡◌, ◌∙◌, ap, sym, refl, false, rules, Err}
use Rattle.std.proofs.lemmas.Result.{IfOk-weaker, on_err_weaker}
use Rattle.indexmap.specs.IndexSet.{contains_text}
use Rattle.cs_docs.specs.Kept.{is_dataset_of}
use Rattle.cs_docs.specs.Store.{prepared}
use Rattle.cs_reply.specs.View.{Appended}
use Rattle.cs_body.specs.View.{txn}
use Rattle.cs_txn.specs.Commit.{commit}
use Rattle.cs_txn.specs.Refused.{Refused}
use Rattle.cs_machine.specs.Replies.{reply_tree, not_done}
use Rattle.cs_state.specs.State.{state}
use Rattle.cs_state.proofs.Replying.{does_as, leaves_as, same_kept, kept_leaves, kept_on}
use Rattle.cs_state.proofs.Told.{told_both}
use Rattle.cs_state.proofs.Transacting.{changes_known, row_known, row_refused, says_refused}
use Rattle.cs_state.proofs.Visiting.{few_accepted, few_refused}
use Rattle.cs_state.proofs.state.State.do_all.Goals as goal

pub returns-in-Ok-clause-does : goal.returns-in-Ok-clause-does
returns-in-Ok-clause-does g c =
    let held = c.args.self.now in
    let row = row_known c.commits_keep_datasets.ensures c.changes_are_computed.ensures
    c.changes_are_one_list.ensures (state held) (txn c.args.txn) (prepared c.in-Ok.prepared)
    (is_dataset_of held.docs) (search rules) c.in-Ok.ensures.accepted c.in-Ok.ensures.changes in
    IfOk-weaker c.accept-told.result _ _ (λ t h. does_as _ _ t c.accept-told.new.self c.args.line _ _ row h)
    c.accept-told.ensures.does

pub returns-in-Ok-clause-leaves : goal.returns-in-Ok-clause-leaves
returns-in-Ok-clause-leaves g c =
    let held = c.args.self.now in
    let row = row_known c.commits_keep_datasets.ensures c.changes_are_computed.ensures
    c.changes_are_one_list.ensures (state held) (txn c.args.txn) (prepared c.in-Ok.prepared)
    (is_dataset_of held.docs) (search rules) c.in-Ok.ensures.accepted c.in-Ok.ensures.changes in
    on_err_weaker c.accept-told.result (λ h. leaves_as held c.accept-told.new.self _ _ row h)
    c.accept-told.ensures.leaves

pub returns-clause-does : goal.returns-clause-does
returns-clause-does g c =
    let held = c.args.self.now in
    let s = state held in
    let x = txn c.args.txn in
    let n = c.args.line in
    let r = c.in-Err.refusal in
    let from = c.args.out.now.items in
    let to = c.write_refused.new.out.items in
    let unused : contains_text held.used c.args.txn.id ≡ false =
    ap (contains_text held.used) (sym c.as_str-id.ensures) ∙ sym c.contains.ensures
    ∙ c.if-contains.false in
    let written = c.in_ok-write_refused-in-Err.ensures in
    let two = told_both
    (λ cause. commit x s.moment s.docs ≡ Err (record { mutation = r.mutation; cause = cause }))
    (λ cause. Appended from to
    (reply_tree n (not_done (record { mutation = r.mutation; cause = cause }))))
    r.why c.in-Err.ensures.refused written.0 written.1 in
    let refused : Refused = record { mutation = r.mutation; cause = two.cause } in
    does_as from to _ held n _ _ (row_refused s x refused unused two.one)
    (says_refused from to _ held n refused c.requires.usable
    (record { replies = refl; events = refl; live = refl; refused = refl }) two.other)

pub returns-in_err-write_refused-in-Err-clause-leaves : goal.returns-in_err-write_refused-in-Err-clause-leaves
returns-in_err-write_refused-in-Err-clause-leaves g c =
    let held = c.args.self.now in
    kept_on _ (kept_leaves held held _ (same_kept held c.requires.usable))

pub returns-in-Ok-clause-visits : goal.returns-in-Ok-clause-visits
returns-in-Ok-clause-visits g c =
    let held = c.args.self.now in
    let s = state held in
    let x = txn c.args.txn in
    let cs = prepared c.in-Ok.prepared in
    let row = row_known c.commits_keep_datasets.ensures c.changes_are_computed.ensures
    c.changes_are_one_list.ensures s x cs (is_dataset_of held.docs) (search rules)
    c.in-Ok.ensures.accepted c.in-Ok.ensures.changes in
    let are = changes_known c.commits_keep_datasets.ensures c.changes_are_computed.ensures
    c.changes_are_one_list.ensures s x cs (is_dataset_of held.docs)
    c.in-Ok.ensures.accepted c.in-Ok.ensures.changes in
    few_accepted held x cs c.args.steps.now c.prepare.new.steps c.accept-told.new.steps (search rules)
    row are c.prepare.ensures.visits c.accept-told.ensures.quiet

pub returns-clause-visits : goal.returns-clause-visits
returns-clause-visits g c =
    let unused : contains_text c.args.self.now.used c.args.txn.id ≡ false =
    ap (contains_text c.args.self.now.used) (sym c.as_str-id.ensures) ∙ sym c.contains.ensures
    ∙ c.if-contains.false in
    few_refused c.args.self.now (txn c.args.txn) c.args.steps.now c.prepare.new.steps unused
    c.prepare.ensures.visits

pub returns-in_err-write_refused-in-Err-clause-visits : goal.returns-in_err-write_refused-in-Err-clause-visits
returns-in_err-write_refused-in-Err-clause-visits g c =
    let unused : contains_text c.args.self.now.used c.args.txn.id ≡ false =
    ap (contains_text c.args.self.now.used) (sym c.as_str-id.ensures) ∙ sym c.contains.ensures
    ∙ c.if-contains.false in
    few_refused c.args.self.now (txn c.args.txn) c.args.steps.now c.prepare.new.steps unused
    c.prepare.ensures.visits
