use Rattle.std.proofs.Common.{◌∙◌, ap, ◌||◌}
use Rattle.cs_index.specs.Picking.{is_hit, is_found}
use Rattle.cs_index.proofs.Picked.{one_id}
use Rattle.cs_index.proofs.pick.place_of_id.Goals as goal

pub returns : goal.returns
returns c =
    let d = c.args.docs.now in
    let ks = c.args.keys.now in
    let i = c.args.id.now in
    c.in_ok-places.ensures d ks c.in_ok-choose_id.ensures.wanted
    (λ y. c.in_ok-choose_id.ensures.finds y ∙ ap (λ hs. is_found d ks i y || is_hit y hs) c.new-hits.ensures.items ∙ one_id d ks i y c.requires)
