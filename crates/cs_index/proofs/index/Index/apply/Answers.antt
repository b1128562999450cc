use Rattle.std.proofs.Common.{◌∙◌, ap, cond, true, false}
use Rattle.cs_view.specs.View.{edits}
use Rattle.cs_index.specs.Entries.{has_entry, is_in, gains, enters, or_some}
use Rattle.cs_index.proofs.Applied.{applied}
use Rattle.cs_index.proofs.index.Index.apply.Goals as goal

pub returns-clause-entries : goal.returns-clause-entries
returns-clause-entries c q =
    c.in_ok-enter_changes.ensures q
    ∙ ap (or_some (enters c.args.self.now.coding c.args.docs.now q) (edits c.args.changes.now))
    (c.in_ok-put_in.ensures.gain q ∙ ap (cond (is_in q c.args.delta.gained.items) true) (c.take_out.ensures q))

pub returns-clause-follows : goal.returns-clause-follows
returns-clause-follows c was on delta old =
    let cs = edits c.args.changes.now in
    applied c.args.self.now.coding was c.args.docs.now cs c.args.self.now.entries
    c.enter_changes.new.entries
    (λ q.
    returns-clause-entries c q
    ∙ ap (or_some (enters c.args.self.now.coding c.args.docs.now q) cs)
    (ap (λ a. cond a true (cond (is_in q c.args.delta.lost.items) false (has_entry c.args.self.now.entries q))) (delta.gained q)
    ∙ ap (λ a. cond (or_some (gains c.args.self.now.coding was q) cs false) true (cond a false (has_entry c.args.self.now.entries q))) (delta.lost q)))
    on.changes on.leads on.after on.steady old
