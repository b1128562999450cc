use Rattle.std.proofs.Common.{◌≡◌, ◌-◌, ◌≤◌, length, nat_lt, ap, ◌∙◌, arith}
use Rattle.std.proofs.lemmas.List.{drop_all}
use Rattle.cs_view.specs.View.{edits}
use Rattle.cs_shelf.proofs.Standing.{ascending-documents}
use Rattle.cs_docs.specs.Limits.{most_documents}
use Rattle.cs_docs.specs.Store.{docs, after}
use Rattle.cs_docs.proofs.Counts.{arriving, stood, counted, grown, not_grown}
use Rattle.cs_docs.proofs.make.full_after.Goals as goal

pub returns-then-stand-stood : goal.returns-then-stand-stood
returns-then-stand-stood c =
    let l = c.loop-change in
    let no_more = drop_all l.change-index c.args.changes.now c.loop-change-test.false in
    let s : l.stood ≡ stood (edits c.args.changes.now) = omega (arith, l.invariant.stood, ap (λ cs. stood (edits cs)) no_more) in
    let t : l.stand ≡ arriving (edits c.args.changes.now) = omega (arith, l.invariant.stand, ap (λ cs. arriving (edits cs)) no_more) in
    let n : length (docs c.args.store.now) ≤ most_documents = c.args.store.now.within in
    let is = counted (docs c.args.store.now) (edits c.args.changes.now) (ascending-documents c.args.store.now.shelf) c.requires.changes c.requires.leads in
    ap (λ x. nat_lt (most_documents - x) (l.stand - l.stood)) c.len.ensures
    ∙ grown most_documents (length (docs c.args.store.now)) (length (after c.args.store.now c.args.changes.now)) l.stood l.stand (omega (arith, is, s, t)) n c.if-stand-stood.true

pub returns-else-stand-stood : goal.returns-else-stand-stood
returns-else-stand-stood c =
    let l = c.loop-change in
    let no_more = drop_all l.change-index c.args.changes.now c.loop-change-test.false in
    let s : l.stood ≡ stood (edits c.args.changes.now) = omega (arith, l.invariant.stood, ap (λ cs. stood (edits cs)) no_more) in
    let t : l.stand ≡ arriving (edits c.args.changes.now) = omega (arith, l.invariant.stand, ap (λ cs. arriving (edits cs)) no_more) in
    let n : length (docs c.args.store.now) ≤ most_documents = c.args.store.now.within in
    let is = counted (docs c.args.store.now) (edits c.args.changes.now) (ascending-documents c.args.store.now.shelf) c.requires.changes c.requires.leads in
    not_grown most_documents (length (docs c.args.store.now)) (length (after c.args.store.now c.args.changes.now)) l.stood l.stand (omega (arith, is, s, t)) n c.if-stand-stood.false
