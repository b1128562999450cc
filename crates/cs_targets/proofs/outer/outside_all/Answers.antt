use Rattle.std.proofs.Common.{◌∙◌, ap}
use Rattle.cs_targets.specs.Held.{is_held, any_before}
use Rattle.cs_targets.proofs.Holding.{inside-held}
use Rattle.cs_targets.proofs.Looked.{keep_step}
use Rattle.cs_targets.proofs.outer.outside_all.Goals as goal

pub loop-target-preserved : goal.loop-target-preserved
loop-target-preserved c = λ ns.
    let ts = c.args.targets.now in
    let x = c.target-item.result in
    let inside = c.is_inside_some.ensures ∙ ap (any_before (is_held c.in_ok-held.held)) c.deref.ensures.value
    ∙ inside-held (is_held c.in_ok-held.held) ts c.in_ok-held.ensures x.location.items in
    keep_step ns ts ts c.loop-target.target-index x _ _ _ c.is_inside_some.result c.loop-target-test.true c.target-item.is inside (c.in_ok-keep.ensures ns) (c.loop-target.invariant ns)
