use Rattle.std.proofs.Common.{◌∙◌, arith, map}
use Rattle.cs_view.specs.View.{edit}
use Rattle.cs_listen.specs.Events.{heard}
use Rattle.cs_listen.specs.Listeners.{listener}
use Rattle.cs_reply.specs.View.{event}
use Rattle.cs_listen.proofs.Without.{gathered}
use Rattle.cs_listen.proofs.listening.Listening.hear.Goals as goal

pub loop-change-preserved : goal.loop-change-preserved
loop-change-preserved c =
    gathered edit (heard c.args.tx.now c.args.moment.now (listener c.args.self.now))
    (map event c.loop-change.heard.items) (map event c.hear_one.new.heard.items)
    c.args.changes.now c.loop-change.change-index c.change-item.result (omega arith)
    c.change-item.is c.in_ok-hear_one.ensures
    ∙ c.loop-change.invariant
