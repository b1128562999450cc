use Rattle.std.proofs.Common.{◌≡◌, true}
use Rattle.cs_view.specs.Dataset.{ascending}
use Rattle.cs_view.specs.View.{edits}
use Rattle.cs_view.proofs.Booleans.{and-left}
use Rattle.cs_kept.proofs.Refreshing.{rows-ascend, rows-new, rows-refreshed}
use Rattle.cs_kept.proofs.rows.Rows.refresh.Goals as goal

pub follow-requires-clause-ascending : goal.follow-requires-clause-ascending
follow-requires-clause-ascending g c =
    let docs = g.V.View.docs c.args._view.now in
    let sorted : ascending docs ≡ true = and-left (ascending docs) _ (g.met.V.View.dataset c.args._view.now) in
    rows-ascend docs (edits c.args.changes.now) sorted c.args.self.now c.requires.fits

pub follow-requires-clause-new : goal.follow-requires-clause-new
follow-requires-clause-new g c =
    let docs = g.V.View.docs c.args._view.now in
    let sorted : ascending docs ≡ true = and-left (ascending docs) _ (g.met.V.View.dataset c.args._view.now) in
    rows-new docs (edits c.args.changes.now) sorted c.requires.changes c.requires.led c.changes_lead_back_and_on.ensures c.args.self.now c.requires.fits

pub returns-clause-refreshed : goal.returns-clause-refreshed
returns-clause-refreshed g c =
    let docs = g.V.View.docs c.args._view.now in let cs = edits c.args.changes.now in
    let sorted : ascending docs ≡ true = and-left (ascending docs) _ (g.met.V.View.dataset c.args._view.now) in
    rows-refreshed c.simple_is_tail_of_hits.ensures c.changes_lead_back_and_on.ensures c.filter_follows_changes.ensures docs cs sorted c.requires.changes c.requires.led c.args.self.now c.follow.new.self c.requires.fits c.in_ok-stale.ensures.rows c.in_ok-stale.ensures.settled c.follow.ensures.asks
