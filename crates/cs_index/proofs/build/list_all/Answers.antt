use Rattle.std.proofs.Common.{◌≡◌, ◌∙◌, [], Option, None, Some, true, map, refl, sym, ap, subst, cond, arith, IsSome}
use Rattle.std.proofs.lemmas.Grind.{common_steps}
use Rattle.std.specs.Vec.Iter.{into_iter_items}
use Rattle.cs_value.specs.Tree.{Tree}
use Rattle.cs_view.specs.Document.{id_of}
use Rattle.cs_view.specs.View.{document_of}
use Rattle.cs_docs.specs.Store.{doc_at}
use Rattle.cs_index.specs.Entries.{or_some, puts}
use Rattle.cs_index.specs.Spreading.{is_spread}
use Rattle.cs_docs.specs.Gathered.{entering}
use Rattle.cs_index.proofs.Applied.{put_at_place}
use Rattle.cs_index.proofs.Split.{split, no_rest, or_null}
use Rattle.cs_index.proofs.build.list_all.Goals as goal

pub at-doc-requires : goal.at-doc-requires
at-doc-requires c =
    let all = sym (ap (λ ps. map (doc_at c.args.docs.now) ps) c.in-Some.ensures.steps.0) ∙ c.loop-place.invariant.1 in
    let s = split (doc_at c.args.docs.now) c.in-Some.place _ c.loop-place.invariant.0 all in
    subst (λ (o : Option Tree). IsSome o) (sym s.there) refl

pub loop-place-preserved : goal.loop-place-preserved
loop-place-preserved c =
    let d = c.args.docs.now in
    let all = sym (ap (λ ps. map (doc_at d) ps) c.in-Some.ensures.steps.0) ∙ c.loop-place.invariant.1 in
    let s = split (doc_at d) c.in-Some.place _ c.loop-place.invariant.0 all in
    let this : Tree = document_of c.at-doc.result.now in
    let one : Some this ≡ Some s.first = sym c.at-doc.ensures ∙ s.there in (
      s.more,
      s.others,
      λ q.
          ap (or_some (puts c.args.coding.now d q) (entering s.more))
          (c.in_ok-list_doc.ensures q
          ∙ ap (λ b. cond b true (is_spread q c.loop-place.spread)) (put_at_place c.args.coding.now d c.in-Some.place this q c.at-doc.ensures)
          ∙ ap (λ (o : Option Tree). cond (puts c.args.coding.now d q (id_of (or_null o), (None, Some (or_null o)))) true (is_spread q c.loop-place.spread)) one)
          ∙ sym (ap (λ ds. or_some (puts c.args.coding.now d q) (entering ds) (is_spread q c.loop-place.spread)) s.is)
          ∙ c.loop-place.invariant.2 q,
    )

pub returns : goal.returns
returns c = λ q.
    let ended : into_iter_items c.loop-place.place-iterator ≡ [] = grind (arith, common_steps, c.in-None.ensures.steps.0) in
    let over : c.loop-place.invariant.0 ≡ [] = no_rest c.loop-place.invariant.0 (sym (ap (λ ps. map (doc_at c.args.docs.now) ps) ended) ∙ c.loop-place.invariant.1) in
    sym (ap (λ ds. or_some (puts c.args.coding.now c.args.docs.now q) (entering ds) (is_spread q c.loop-place.spread)) over)
    ∙ c.loop-place.invariant.2 q
