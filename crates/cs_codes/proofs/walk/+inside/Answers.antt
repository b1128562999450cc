use Rattle.std.proofs.Common.{◌++◌, ◌∙◌, ap, sym}
use Rattle.cs_value.proofs.Views.{walked}
use Rattle.cs_codes.specs.Codes.{pairs_inside}
use Rattle.cs_codes.proofs.walk.+inside.Goals as goal

pub put_fields_inside-loop-name-init : goal.put_fields_inside-loop-name-init
put_fields_inside-loop-name-init t c =
    let steps = c.into_iter-name-iterator.ensures.into_iter_gives ∙ c.iter-name-items.ensures.rest in
    ap (λ ps. c.args.out.now.items ++ pairs_inside c.args.room c.args.hash ps) (sym (walked c.args.object.now steps))
