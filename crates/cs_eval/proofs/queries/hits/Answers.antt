use Rattle.std.proofs.Common.{◌≡◌, ◌∙◌, [], ◌∷◌, sym, map, Some, arith}
use Rattle.cs_value.specs.Tree.{null}
use Rattle.cs_value.specs.View.{fields}
use Rattle.cs_syntax.specs.Queries.{expression_of}
use Rattle.cs_view.specs.Keys.{selected}
use Rattle.cs_view.specs.View.{document_of}
use Rattle.cs_plan.specs.Simple.{filter_of, steps_behind, query_keys}
use Rattle.cs_meaning.specs.Hits.{is_hit}
use Rattle.cs_eval.proofs.Found.{of_keys, is_there, as_many, found-more, found-all}
use Rattle.cs_eval.proofs.Simples.{hits-within, all_fewer}
use Rattle.cs_eval.proofs.queries.hits.Goals as goal

pub at-requires : goal.at-requires
at-requires g c =
    let e = expression_of c.args.query.now in let ps = fields c.args.params.now in let docs = g.V.View.docs c.args.view.now in
    let at = g.V.View.doc_at c.args.view.now in let places = c.deref-place-items.result.now in
    let all : map at places ≡ map Some (selected (query_keys e ps) docs) = of_keys at places c.in_ok-places.places.items c.deref.result.now (query_keys e ps) docs c.deref-place-items.ensures.value c.in_ok-places.ensures (c.deref.ensures.value ∙ c.in_ok-keys.ensures) in
    is_there at places (selected (query_keys e ps) docs) c.loop-place.place-index null all c.loop-place-test.true

pub returns-in_err-push_hit-clause-visits : goal.returns-in_err-push_hit-clause-visits
returns-in_err-push_hit-clause-visits g c =
    let e = expression_of c.args.query.now in let ps = fields c.args.params.now in let docs = g.V.View.docs c.args.view.now in
    let at = g.V.View.doc_at c.args.view.now in let places = c.deref-place-items.result.now in
    let all : map at places ≡ map Some (selected (query_keys e ps) docs) = of_keys at places c.in_ok-places.places.items c.deref.result.now (query_keys e ps) docs c.deref-place-items.ensures.value c.in_ok-places.ensures (c.deref.ensures.value ∙ c.in_ok-keys.ensures) in
    omega (arith, as_many at places (selected (query_keys e ps) docs) all, all_fewer docs ps (filter_of (steps_behind e)) (null ∷ []), c.loop-place.invariant.visits, c.at.ensures.visit, c.loop-place-test.true)

pub loop-place-preserved : goal.loop-place-preserved
loop-place-preserved g c =
    let e = expression_of c.args.query.now in let ps = fields c.args.params.now in let docs = g.V.View.docs c.args.view.now in
    let at = g.V.View.doc_at c.args.view.now in let places = c.deref-place-items.result.now in
    let all : map at places ≡ map Some (selected (query_keys e ps) docs) = of_keys at places c.in_ok-places.places.items c.deref.result.now (query_keys e ps) docs c.deref-place-items.ensures.value c.in_ok-places.ensures (c.deref.ensures.value ∙ c.in_ok-keys.ensures) in
    record {
      found = found-more (is_hit e ps) at places (selected (query_keys e ps) docs) c.loop-place.place-index (document_of c.at.result.now) _ _ all c.loop-place-test.true c.at.ensures.found c.loop-place.invariant.found c.in_ok-push_hit.ensures;
      visits = omega (arith, c.loop-place.invariant.visits, c.at.ensures.visit);
    }

pub returns-clause-hits : goal.returns-clause-hits
returns-clause-hits g c =
    let e = expression_of c.args.query.now in let ps = fields c.args.params.now in let docs = g.V.View.docs c.args.view.now in
    let at = g.V.View.doc_at c.args.view.now in let places = c.deref-place-items.result.now in
    let all : map at places ≡ map Some (selected (query_keys e ps) docs) = of_keys at places c.in_ok-places.places.items c.deref.result.now (query_keys e ps) docs c.deref-place-items.ensures.value c.in_ok-places.ensures (c.deref.ensures.value ∙ c.in_ok-keys.ensures) in
    found-all (is_hit e ps) at places (selected (query_keys e ps) docs) c.loop-place.place-index _ all c.loop-place-test.false c.loop-place.invariant.found ∙ sym (hits-within e ps docs)

pub returns-clause-visits : goal.returns-clause-visits
returns-clause-visits g c =
    let e = expression_of c.args.query.now in let ps = fields c.args.params.now in let docs = g.V.View.docs c.args.view.now in
    let at = g.V.View.doc_at c.args.view.now in let places = c.deref-place-items.result.now in
    let all : map at places ≡ map Some (selected (query_keys e ps) docs) = of_keys at places c.in_ok-places.places.items c.deref.result.now (query_keys e ps) docs c.deref-place-items.ensures.value c.in_ok-places.ensures (c.deref.ensures.value ∙ c.in_ok-keys.ensures) in
    omega (arith, as_many at places (selected (query_keys e ps) docs) all, all_fewer docs ps (filter_of (steps_behind e)) (null ∷ []), c.loop-place.invariant.visits, c.loop-place.auto.place-index-end)
