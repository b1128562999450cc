use Rattle.std.proofs.Common.{◌≡◌, ◌∙◌, [], ◌∷◌, ◌++◌, ap, map, sym, subst, true, append_assoc}
use Rattle.std.specs.Vec.Iter.{into_iter_items}
use Rattle.cs_view.specs.Dataset.{ascending, with_doc}
use Rattle.cs_view.specs.View.{document_of}
use Rattle.cs_load.proofs.Gathering.{next_in_order}
use Rattle.cs_load.proofs.loading.collected.by_id.Goals as goal

pub loop-document-preserved : goal.loop-document-preserved
loop-document-preserved c =
    let l = c.loop-document in
    let done = l.invariant.0 in
    let d = c.in-Some.document in
    let left = into_iter_items c.next.new.self in
    let all : c.args.documents.items ≡ done ++ d ∷ left = l.invariant.1 ∙ ap (λ ds. done ++ ds) c.in-Some.ensures.steps.0 in
    let last = next_in_order done d left (subst (λ ds. ascending (map document_of ds) ≡ true) all c.requires) in (
      done ++ d ∷ [],
      all ∙ sym (append_assoc done (d ∷ []) left),
      c.put_by_id.ensures.by_id,
      c.in_ok-_stood.ensures.put ∙ ap (with_doc (document_of d)) l.invariant.3 ∙ last,
    )
