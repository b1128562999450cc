use Rattle.std.proofs.Common.{◌++◌, ◌&&◌, List, [], ◌∷◌, drop, ◌+◌, option_map, sym, ap, ◌∙◌, refl, append_assoc}
use Rattle.std.specs.List.{filter}
use Rattle.cs_value.specs.Tree.{Tree}
use Rattle.cs_view.specs.Changes.{Edit}
use Rattle.cs_view.specs.View.{document_of, edit, edits}
use Rattle.cs_view.proofs.Changed.{ascending-after_changes}
use Rattle.cs_shelf.proofs.Standing.{ascending-documents}
use Rattle.cs_value.specs.Words.{first_of}
use Rattle.cs_docs.specs.Suspects.{dangles, is_suspect, lesser}
use Rattle.cs_docs.specs.Store.{docs, after}
use Rattle.cs_docs.proofs.Walks.{suspects_none, change_here, found_here, one_more, all_done, all_suspects}
use Rattle.cs_docs.proofs.dangling.first_document.Goals as goal

pub loop-change-init : goal.loop-change-init
loop-change-init g c = ([], refl, sym (suspects_none (dangles (after c.args.store.now c.args.changes.now)) (edits c.args.changes.now) (after c.args.store.now c.args.changes.now)))

pub suspect-requires-clause-one : goal.suspect-requires-clause-one
suspect-requires-clause-one g c =
    let l = c.loop-change in
    let x = c.change-item.result in
    found_here (edits c.args.changes.now) l.invariant.0 (edit x) (edits (drop (l.change-index + 1) c.args.changes.now)) c.requires.changes
    (change_here c.args.changes.now l.change-index x l.invariant.0 c.loop-change-test.true c.change-item.is l.invariant.1)

pub loop-change-preserved : goal.loop-change-preserved
loop-change-preserved g c =
    let l = c.loop-change in
    let x = c.change-item.result in
    let docs_after : List Tree = after c.args.store.now c.args.changes.now in
    let cs : List Edit = edits c.args.changes.now in (
      l.invariant.0 ++ edit x ∷ [],
      change_here c.args.changes.now l.change-index x l.invariant.0 c.loop-change-test.true c.change-item.is l.invariant.1 ∙ sym (append_assoc l.invariant.0 (edit x ∷ []) (edits (drop (l.change-index + 1) c.args.changes.now))),
      c.lesser-first.ensures ∙ ap (λ o. lesser o (option_map (λ d. document_of d.now) c.suspect.result)) l.invariant.2 ∙ ap (lesser (first_of (filter (λ d. dangles docs_after d && is_suspect cs l.invariant.0 d) docs_after))) c.suspect.ensures
          ∙ one_more (dangles docs_after) cs l.invariant.0 (edit x) docs_after (ascending-after_changes (docs c.args.store.now) cs (ascending-documents c.args.store.now.shelf)),
    )

pub returns : goal.returns
returns g c =
    let l = c.loop-change in
    let docs_after : List Tree = after c.args.store.now c.args.changes.now in
    let cs : List Edit = edits c.args.changes.now in
    l.invariant.2 ∙ ap (λ (done : List Edit). first_of (filter (λ d. dangles docs_after d && is_suspect cs done d) docs_after)) (all_done c.args.changes.now l.change-index l.invariant.0 c.loop-change-test.false l.invariant.1)
    ∙ ap first_of (all_suspects (docs c.args.store.now) cs (ascending-documents c.args.store.now.shelf) c.args.store.now.clean c.requires.changes)
