use Rattle.std.proofs.Common.{refl}
use Rattle.cs_view.specs.View.{edits}
use Rattle.cs_live.proofs.Refreshing.{entry-refreshed, stale-is}
use Rattle.cs_live.proofs.entry.Entry.refresh.Goals as goal

pub returns-clause-refreshed : goal.returns-clause-refreshed
returns-clause-refreshed g c = entry-refreshed (g.V.View.docs c.args.view.now) (edits c.args.changes.now) c.args.self.now (record { name = c.args.self.now.name; kept = c.refresh.new.self; number = c.args.self.now.number }) refl refl c.in_ok-stale.ensures.refreshed

pub returns-clause-stale : goal.returns-clause-stale
returns-clause-stale g c = stale-is (g.V.View.docs c.args.view.now) (edits c.args.changes.now) c.args.self.now (record { name = c.args.self.now.name; kept = c.refresh.new.self; number = c.args.self.now.number }) _ c.in_ok-stale.ensures.refreshed c.in_ok-stale.ensures.stale
