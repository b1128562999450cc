use Rattle.std.proofs.Common.{◌∙◌, ap, refl, sym}
use Rattle.cs_value.specs.View.{fields}
use Rattle.cs_syntax.specs.Queries.{expression_of}
use Rattle.cs_meaning.specs.Hits.{tail}
use Rattle.cs_kept.specs.Found.{hit_key}
use Rattle.cs_hits.specs.Hits.{docs_of}
use Rattle.cs_kept.proofs.Coded.{coded-one}
use Rattle.cs_hits.proofs.Nearing.{settled_by}
use Rattle.cs_kept.proofs.rows.Rows.build.Goals as goal

pub returns-clause-coded : goal.returns-clause-coded
returns-clause-coded g c = coded-one c.args.seed.now (hit_key (expression_of c.args.query) (fields c.args.params)) c.in-Ok.codes.items c.in-Ok.ensures

pub returns-clause-answers : goal.returns-clause-answers
returns-clause-answers g c =
    let docs = g.V.View.docs c.args.view.now in let e = expression_of c.args.query in let ps = fields c.args.params in
    let found = c.in-Ok-find.hits in
    let h = c.in-Ok-find.ensures.hits in
    let value = settled_by e ps (tail e ps) (λ bound xs ys n s. (c.window_settles_tail.ensures e ps bound xs ys n s).0) found.near (docs_of found) h.near h.enough in
    let answered = c.in-Ok-tail.ensures ∙ (ap (tail e ps) c.settling.ensures ∙ value) in
    record {
      query = refl;
      params = refl;
      last = answered ∙ (ap (tail e ps) h.are ∙ sym (c.simple_is_tail_of_hits.ensures e ps docs c.requires));
      fits = record {
        simple = c.requires;
        rows = h.are;
        settled = record { answered = answered; near = h.near; enough = h.enough };
      };
    }
