use Rattle.std.proofs.Common.{◌∙◌, ap, map}
use Rattle.std.proofs.lemmas.List.Filters.{dedup_is}
use Rattle.cs_index.proofs.Hits.{hit_eq, in_order}
use Rattle.cs_index.proofs.pick.places_of.Goals as goal

pub returns : goal.returns
returns c =
    in_order c.args.hits.items c.sort_unstable.new.self.items c.in_ok-places.places.items c.sort_unstable.ensures.permutation c.sort_unstable.ensures.sorted
    (c.in_ok-places.ensures ∙ ap (map (λ h. h.1)) (dedup_is hit_eq c.sort_unstable.new.self.items c.dedup.new.self.items c.dedup.ensures.filtered))
