use Rattle.std.proofs.Common.{◌∙◌, ap, map, sym}
use Rattle.cs_value.proofs.Views.{walked}
use Rattle.cs_func.specs.Refers.{some_pair_refers_to_one}
use Rattle.cs_func.proofs.reference.+refers_to_one.Goals as goal

pub some_pair_refers-loop-member-init : goal.some_pair_refers-loop-member-init
some_pair_refers-loop-member-init t c =
    let steps = c.into_iter-member-iterator.ensures.into_iter_gives ∙ c.iter-member-items.ensures.rest in
    ap (some_pair_refers_to_one (map (λ b. b.now) c.args.targets.now)) (sym (walked c.args.object.now steps))
