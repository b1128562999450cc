use Rattle.std.proofs.Common.{List, map, subst}
use Rattle.cs_value.specs.Tree.{Tree}
use Rattle.cs_value.specs.View.{fields}
use Rattle.cs_syntax.specs.Queries.{expression_of}
use Rattle.cs_view.specs.View.{document_of}
use Rattle.cs_hits.specs.Near.{AreNearest}
use Rattle.cs_hits.proofs.Behinds.{narrowed_behind}
use Rattle.cs_hits.proofs.Nearing.{some_is}
use Rattle.cs_hits.proofs.behind.Behind.narrow.Goals as goal

pub returns-in-Some : goal.returns-in-Some
returns-in-Some c = λ docs are enough.
    let e = expression_of c.args.query.now in let ps = fields c.args.params.now in
    let n = c.in-Some.near in
    let m = some_is c.in_ok-near.field-0 n (AreNearest e ps (map document_of c.docs.result.now)) (cc c.in-Some.is) c.in_ok-near.ensures in
    narrowed_behind e ps c.nearer_is_within.ensures docs c.args.self.now n are (subst (λ (ds : List Tree). AreNearest e ps ds n) c.docs.ensures m)
