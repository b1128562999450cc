use Rattle.std.proofs.Common.{true, cond, ap, ◌∙◌}
use Rattle.cs_targets.specs.Held.{is_held, same_location}
use Rattle.cs_targets.proofs.Holding.{hold-more}
use Rattle.cs_targets.proofs.outer.locations.Goals as goal

pub loop-target-preserved : goal.loop-target-preserved
loop-target-preserved c = λ m.
    hold-more c.args.targets.now c.loop-target.target-index c.target-item.result m _ _ _ c.loop-target-test.true c.target-item.is
    (c.in_ok-hold.ensures m ∙ ap (λ z. cond (same_location z m) true (is_held c.loop-target.held m)) c.deref.ensures.value)
    (c.loop-target.invariant m)
