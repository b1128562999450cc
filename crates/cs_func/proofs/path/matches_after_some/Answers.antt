use Rattle.std.proofs.Common.{ap, ◌∙◌}
use Rattle.cs_func.specs.Run.{left}
use Rattle.cs_func.proofs.Runs.{rest-step}
use Rattle.cs_func.proofs.path.matches_after_some.Goals as goal

pub loop-text_left-preserved : goal.loop-text_left-preserved
loop-text_left-preserved c =
    let l = c.loop-text_left in
    rest-step (left l.parts_left) (left l.text_left) c.first_part.result.0.now (left c.first_part.result.1) (left c.in-Any.later) (left c.in-Any.others) _
    (ap left c.in-Some.is ∙ c.first_part.ensures.split) c.in-Any.ensures l.invariant
