use Rattle.std.proofs.Common.{◌≡◌, ◌∙◌, ap, refl, subst, List}
use Rattle.cs_value.specs.View.{tree, fields}
use Rattle.cs_value.specs.Words.{list_of}
use Rattle.cs_syntax.specs.Queries.{expression_of}
use Rattle.cs_hits.specs.Shares.{share_values, shares_looked}
use Rattle.cs_hits.specs.declared.share.Share.{Share}
use Rattle.cs_kept.specs.Found.{AreListed}
use Rattle.cs_hits.proofs.Sharing.{shares-value}
use Rattle.cs_kept.proofs.mapped.Mapped.build.Goals as goal

pub returns-clause-coded : goal.returns-clause-coded
returns-clause-coded g c =
    subst (λ (ss : List Share). AreListed c.args.seed.now c.in-Ok-query_key.own (shares_looked ss) c.in-Ok-listed.codes.items) c.deref.ensures.value c.in-Ok-listed.ensures

pub returns-clause-answers : goal.returns-clause-answers
returns-clause-answers g c =
    let docs = g.V.View.docs c.args.view.now in let e = expression_of c.args.query in let params = fields c.args.params in
    let shares = c.in-Ok.shares in
    let last : tree c.in-Ok-answer_of.last ≡ list_of (share_values shares.items)
    = c.in-Ok-answer_of.ensures ∙ ap (λ (ss : List Share). list_of (share_values ss)) c.deref-2.ensures.value in
    record {
      query = refl;
      params = refl;
      last = shares-value c.mapped_is_shares_of_hits.ensures docs e params shares.items (tree c.in-Ok-answer_of.last) c.requires.mapped c.in-Ok.ensures.hits c.in-Ok.ensures.shares last;
      fits = record {
        compound = c.requires.compound;
        mapped = c.requires.mapped;
        own = c.in-Ok-query_key.ensures;
        hits = c.in-Ok.ensures.hits;
        shares = c.in-Ok.ensures.shares;
        last = last;
      };
    }
