use Rattle.cs_targets.proofs.Looked.{alone}
use Rattle.cs_targets.proofs.outer.outermost.Goals as goal

pub returns : goal.returns
returns c = λ ns.
    rw (c.in_ok-push.ensures.items, c.in_ok-kept.ensures.items)
    (alone ns c.args.targets.now c.target-item.result c.in-len1.len_at_least c.in-len1.len_below c.target-item.is)
