use Rattle.std.proofs.Common.{◌∙◌, arith}
use Rattle.cs_reply.specs.Reply as reply
use Rattle.cs_reply.specs.View.{event as seen}
use Rattle.cs_state.proofs.Listening.{told_one}
use Rattle.cs_state.proofs.transact.write_heard.Goals as goal

pub loop-heard-preserved : goal.loop-heard-preserved
loop-heard-preserved c =
    told_one seen reply.event c.args.line c.loop-heard.out.items c.write.new.out.items c.args.events.now
    c.loop-heard.heard-index c.heard-item.result (omega arith) c.heard-item.is
    c.in_ok-write.ensures
    ∙ c.loop-heard.invariant
