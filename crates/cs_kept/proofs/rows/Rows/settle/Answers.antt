use Rattle.std.proofs.Common.{◌∙◌, ap, sym}
use Rattle.cs_value.specs.View.{fields}
use Rattle.cs_syntax.specs.Queries.{expression_of}
use Rattle.cs_meaning.specs.Hits.{tail}
use Rattle.cs_hits.specs.Hits.{docs_of}
use Rattle.cs_hits.proofs.Nearing.{settled_by}
use Rattle.cs_kept.proofs.rows.Rows.settle.Goals as goal

pub returns-clause-settled : goal.returns-clause-settled
returns-clause-settled c =
    let e = expression_of c.args.self.now.query in let ps = fields c.args.self.now.params in
    let one = c.loosen.new.self in
    let near = c.loosen.ensures.near ps c.requires.near in let enough = c.loosen.ensures.enough ps c.requires.near in
    let value = settled_by e ps (tail e ps) (λ bound xs ys n s. (c.window_settles_tail.ensures e ps bound xs ys n s).0) one.near (docs_of one) near enough in
    record {
      answered = c.in_ok-answer.ensures ∙ (ap (tail e ps) c.settling.ensures ∙ (value ∙ ap (tail e ps) (sym c.narrow.ensures.docs)));
      near = c.narrow.ensures.near;
      enough = c.narrow.ensures.enough;
    }
