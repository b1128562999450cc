use Rattle.std.proofs.Common.{option_map, sym, ap, ◌∙◌}
use Rattle.cs_view.specs.View.{document_of, edits}
use Rattle.cs_shelf.proofs.Standing.{ascending-documents}
use Rattle.cs_docs.specs.Store.{docs, after}
use Rattle.cs_docs.proofs.Walks.{walk_init, walk_found, walk_on, walk_end, walk_smaller}
use Rattle.cs_docs.proofs.dangling.removed_referrer.Goals as goal

pub loop-doc-init : goal.loop-doc-init
loop-doc-init g c = walk_init (after c.args.store.now c.args.changes.now) (edits c.args.changes.now) c.args.target.now (docs c.args.store.now)

pub returns-then-dangles_unchanged : goal.returns-then-dangles_unchanged
returns-then-dangles_unchanged g c =
    walk_found (after c.args.store.now c.args.changes.now) (edits c.args.changes.now) c.args.target.now (option_map (λ i. i.now) c.loop-doc.low) (docs c.args.store.now) (document_of c.in-Some.doc.now)
    c.loop-doc.invariant (sym c.next_doc.ensures ∙ ap (option_map (λ d. document_of d.now)) c.in-Some.is) (sym c.dangles_unchanged.ensures ∙ c.if-dangles_unchanged.true)

pub loop-doc-smaller : goal.loop-doc-smaller
loop-doc-smaller g c =
    walk_smaller c.args.target.now (option_map (λ i. i.now) c.loop-doc.low) (docs c.args.store.now) (document_of c.in-Some.doc.now) c.id.result.now
    (sym c.next_doc.ensures ∙ ap (option_map (λ d. document_of d.now)) c.in-Some.is) c.id.ensures

pub loop-doc-preserved : goal.loop-doc-preserved
loop-doc-preserved g c =
    walk_on (after c.args.store.now c.args.changes.now) (edits c.args.changes.now) c.args.target.now (option_map (λ i. i.now) c.loop-doc.low) (docs c.args.store.now) (document_of c.in-Some.doc.now) c.id.result.now
    (ascending-documents c.args.store.now.shelf) c.loop-doc.invariant (sym c.next_doc.ensures ∙ ap (option_map (λ d. document_of d.now)) c.in-Some.is) (sym c.dangles_unchanged.ensures ∙ c.if-dangles_unchanged.false) c.id.ensures

pub returns : goal.returns
returns g c =
    walk_end (after c.args.store.now c.args.changes.now) (edits c.args.changes.now) c.args.target.now (option_map (λ i. i.now) c.loop-doc.low) (docs c.args.store.now)
    c.loop-doc.invariant (sym c.next_doc.ensures ∙ ap (option_map (λ d. document_of d.now)) c.in_default.is)
