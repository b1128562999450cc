use Rattle.std.proofs.Common.{◌∙◌, length, map, sym, ap, to_z-of_z, Some}
use Rattle.cs_value.specs.View.{tree}
use Rattle.cs_meaning.specs.Positions.{counted, element, place_in}
use Rattle.cs_parts.specs.Parts.{got}
use Rattle.cs_parts.specs.Positions.{element_in}
use Rattle.cs_parts.proofs.Slices.{element_of_parts}
use Rattle.cs_parts.proofs.positions.element_at.Goals as goal

pub returns-in-Parts : goal.returns-in-Parts
returns-in-Parts c =
    let ps = c.in-Parts.parts.items in
    let z = to_z-of_z c.ranges.place in
    let there = c.place_in-at.ensures
    ∙ ap (λ p. place_in (length c.as_slice.result.now) (counted (length c.as_slice.result.now) p)) z
    ∙ ap (λ us. place_in (length us) (counted (length us) c.args.place)) c.as_slice.ensures.value in
    c.part_at.ensures ∙ (ap (element_in (map (λ r. tree r.now) ps)) there
    ∙ (sym (element_of_parts c.args.place (λ r. tree r.now) ps)
    ∙ sym (ap (λ w. element (Some c.args.place) (got w)) c.in-Parts.is)))
