use Rattle.std.proofs.Common.{◌≡◌, ◌∙◌, ap, sym, map}
use Rattle.std.specs.Prelude.{filter}
use Rattle.cs_value.specs.Tree.{Tree}
use Rattle.cs_value.specs.View.{fields}
use Rattle.cs_syntax.specs.Queries.{expression_of}
use Rattle.cs_view.specs.Dataset.{with_doc}
use Rattle.cs_view.specs.View.{document_of}
use Rattle.cs_window.specs.Window.{is_near}
use Rattle.cs_hits.specs.Hits.{docs_of}
use Rattle.cs_hits.specs.Near.{bound_of, near_docs}
use Rattle.cs_hits.specs.declared.near.Near.{Near}
use Rattle.cs_hits.proofs.Nearing.{map_bound, near_ascend, near_put, ok_then, some_is}
use Rattle.cs_hits.proofs.hits.Hits.put.Goals as goal

pub put-requires-in-Some-clause-ascending : goal.put-requires-in-Some-clause-ascending
put-requires-in-Some-clause-ascending c =
    let e = expression_of c.args.query.now in let ps = fields c.args.params.now in let old = docs_of c.args.self.now in
    let near : near_docs c.in-Some.near ≡ filter (is_near e ps (bound_of c.in-Some.near)) old
    = some_is c.args.self.now.near c.in-Some.near (λ (n : Near). near_docs n ≡ filter (is_near e ps (bound_of n)) old) (cc c.in-Some.is) c.requires.near in
    near_ascend e ps (bound_of c.in-Some.near) (near_docs c.in-Some.near) old near c.requires.ascending

pub returns-in-Some-clause-near : goal.returns-in-Some-clause-near
returns-in-Some-clause-near c =
    let e = expression_of c.args.query.now in let ps = fields c.args.params.now in let old = docs_of c.args.self.now in
    let n = c.in-Some.near in let m = c.put-in-Some.new.self in
    let near : near_docs n ≡ filter (is_near e ps (bound_of n)) old
    = some_is c.args.self.now.near n (λ (x : Near). near_docs x ≡ filter (is_near e ps (bound_of x)) old) (cc c.in-Some.is) c.requires.near in
    let put : map document_of c.put.new.all.items ≡ with_doc (document_of c.args.doc.now) old = c.in_ok-put.ensures.put ∙ ap (λ (t : Tree). with_doc t old) c.in_ok-copy.ensures in
    ok_then c.put-in-Some.result
    (λ placed. near_put e ps (bound_of n) (near_docs n) (near_docs m) old (map document_of c.put.new.all.items) (document_of c.args.doc.now) c.requires.ascending near put placed
    ∙ ap (λ b. filter (is_near e ps (map_bound b)) (map document_of c.put.new.all.items)) (sym c.put-in-Some.ensures.bound))
    c.put-in-Some.ensures.placed
