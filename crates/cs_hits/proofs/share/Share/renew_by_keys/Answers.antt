use Rattle.std.proofs.Common.{◌≡◌, true, false}
use Rattle.cs_value.specs.View.{fields}
use Rattle.cs_syntax.specs.Queries.{expression_of}
use Rattle.cs_view.specs.Dataset.{ascending}
use Rattle.cs_view.specs.Touched.{touched}
use Rattle.cs_view.specs.View.{edits}
use Rattle.cs_view.proofs.Booleans.{and-left}
use Rattle.cs_hits.proofs.Sharing.{share-still}
use Rattle.cs_hits.proofs.share.Share.renew_by_keys.Goals as goal

pub returns-then-not-touched-clause-share : goal.returns-then-not-touched-clause-share
returns-then-not-touched-clause-share g c =
    let docs = g.V.View.docs c.args.view.now in let cs = edits c.args.changes.now in
    let sorted : ascending docs ≡ true = and-left (ascending docs) _ (g.met.V.View.dataset c.args.view.now) in
    let quiet : touched c.args.self.now.looked cs ≡ false = cc (c.touched.ensures, c.if-not-touched.true) in
    share-still docs cs sorted c.requires.changes c.requires.led c.untouched_selects_the_same.ensures c.changes_lead_back_and_on.ensures c.looked_settles_share.ensures
    (expression_of c.args.query.now) (fields c.args.params.now) c.args.self.now quiet c.requires.share
