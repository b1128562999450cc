use Rattle.std.proofs.Common.{◌∙◌}
use Rattle.cs_index.proofs.pick.places_among.Goals as goal

pub returns : goal.returns
returns c =
    c.in_ok-places.ensures c.args.docs.now c.args.keys.now c.in_ok-hits.ensures.wanted
    (λ y. c.in_ok-hits.ensures.found y ∙ c.requires y)
