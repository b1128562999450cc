use Rattle.std.proofs.Common.{◌≡◌, ◌∙◌, ap, map}
use Rattle.cs_value.specs.View.{fields}
use Rattle.cs_syntax.specs.Queries.{expression_of}
use Rattle.cs_view.specs.View.{document_of}
use Rattle.cs_meaning.specs.Hits.{hits}
use Rattle.cs_hits.specs.Near.{AreNearest}
use Rattle.cs_hits.proofs.Behinds.{found_near}
use Rattle.cs_hits.proofs.Nearing.{some_is}
use Rattle.cs_hits.proofs.behind.Behind.find.Goals as goal

pub returns-in-Some-clause-are : goal.returns-in-Some-clause-are
returns-in-Some-clause-are g c =
    let docs = g.V.View.docs c.args.view.now in let e = expression_of c.args.query.now in let ps = fields c.args.params.now in
    let ds = map document_of c.deref.result.now in
    let are : ds ≡ hits e ps docs = ap (map document_of) c.deref.ensures.value ∙ c.in_ok-docs.ensures.hits in
    (found_near e ps docs ds c.in-Some.near are (some_is c.in_ok-near.field-0 c.in-Some.near (AreNearest e ps ds) (cc c.in-Some.is) c.in_ok-near.ensures)).0
