use Rattle.std.proofs.Common.{◌∙◌, ap}
use Rattle.cs_value.proofs.Views.{walked}
use Rattle.cs_patch.specs.View.{are_numbers}
use Rattle.cs_body.proofs.parts.are_numbers.Goals as goal

pub loop-val-init : goal.loop-val-init
loop-val-init c =
    ap are_numbers (walked c.args.values.now (c.into_iter-val-iterator.ensures.into_iter_gives ∙ c.iter-val-items.ensures.rest))
