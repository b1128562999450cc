use Rattle.std.proofs.Common.{◌++◌, ◌∙◌, ap, sym}
use Rattle.cs_value.proofs.Views.{walked}
use Rattle.cs_codes.specs.Codes.{pairs_refs}
use Rattle.cs_codes.proofs.walk.+refs.Goals as goal

pub put_field_refs-loop-member-init : goal.put_field_refs-loop-member-init
put_field_refs-loop-member-init t c =
    let steps = c.into_iter-member-iterator.ensures.into_iter_gives ∙ c.iter-member-items.ensures.rest in
    ap (λ ps. c.args.out.now.items ++ pairs_refs c.args.seed.now ps) (sym (walked c.args.object.now steps))
