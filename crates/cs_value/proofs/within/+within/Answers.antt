use Rattle.std.proofs.Common.{◌∙◌, ap, nat_le}
use Rattle.cs_value.specs.Tree.{pairs_depth}
use Rattle.cs_value.proofs.Views.{walked}
use Rattle.cs_value.proofs.within.+within.Goals as goal

pub pairs_within-loop-member-init : goal.pairs_within-loop-member-init
pairs_within-loop-member-init t c =
    ap (λ ps. nat_le (pairs_depth ps) c.args.deepest)
    (walked c.args.object.now (c.into_iter-member-iterator.ensures.into_iter_gives
    ∙ c.iter-member-items.ensures.rest))
