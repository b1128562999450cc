use Rattle.std.proofs.Common.{◌∙◌, ◌++◌, ap, map}
use Rattle.std.specs.List.{list_all}
use Rattle.cs_value.proofs.Views.{walked}
use Rattle.cs_wire.specs.Commands.{is_among, key_names}
use Rattle.cs_wire.proofs.keys.has_only.Goals as goal

pub loop-key-init : goal.loop-key-init
loop-key-init c =
    let known = map (λ k. k.now) c.args.must.now ++ map (λ k. k.now) c.args.may.now in
    let steps = c.into_iter-key-iterator.ensures.into_iter_gives ∙ c.iter-key-items.ensures.rest in
    ap (λ ps. list_all (λ k. is_among k known) (key_names ps)) (walked c.args.object.now steps)
