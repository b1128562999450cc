use Rattle.std.proofs.Common.{◌≡◌, ◌∙◌, [], ◌∷◌, ◌++◌, List, map, true, sym, ap, subst, append_assoc}
use Rattle.std.specs.Vec.Iter.{into_iter_items}
use Rattle.cs_value.specs.Tree.{Tree}
use Rattle.cs_view.specs.Dataset.{ascending}
use Rattle.cs_view.specs.View.{document_of}
use Rattle.cs_view.specs.declared.doc.Doc.{Doc}
use Rattle.cs_shelf.proofs.Gathering.{none_listed, one_more}
use Rattle.cs_shelf.proofs.gather.put_all.Goals as goal

pub loop-document-init : goal.loop-document-init
loop-document-init c = (
  [],
  ap (map document_of) (sym c.into_iter-document-iterator.ensures.into_iter_gives.0),
  none_listed c.in_ok-with_capacity.field-0 c.in_ok-with_capacity-2.field-0.items c.in_ok-with_capacity.ensures.empty c.in_ok-with_capacity-2.ensures.items,
)

pub loop-document-preserved : goal.loop-document-preserved
loop-document-preserved c =
    let l = c.loop-document in
    let done : List Tree = l.invariant.0 in
    let d : Tree = document_of c.in-Some.document in
    let more : List Tree = map document_of (into_iter_items c.next.new.self) in
    let all : map document_of c.args.documents.items ≡ done ++ d ∷ more = l.invariant.1 ∙ ap (λ (ds : List Doc). done ++ map document_of ds) c.in-Some.ensures.steps.0 in (
      done ++ d ∷ [],
      all ∙ sym (append_assoc done (d ∷ []) more),
      one_more l.listed.store c.put_next.new.listed.store l.listed.places.items c.put_next.new.listed.places.items done d more (subst (λ (ds : List Tree). ascending ds ≡ true) all c.requires) l.invariant.2 c.in_ok-put_next.ensures,
    )
