use Rattle.std.proofs.Common.{List, map, option_map, sym, ap, ◌∙◌}
use Rattle.cs_parts.specs.Parts.{got, item}
use Rattle.cs_levels.specs.Levels.{unwound}
use Rattle.cs_parts.specs.declared.item.Item.{Item}
use Rattle.cs_levels.specs.declared.levels.Level.{Level}
use Rattle.cs_levels.proofs.Climbing.{ok_then, opened_list}
use Rattle.cs_levels.proofs.levels.descend.Goals as goal

pub returns-clause-value : goal.returns-clause-value
returns-clause-value c =
    let l : Level = record {
      rest = c.args.rest;
      joins = c.args.joins;
      left = c.into_iter.result;
      out = c.new.result;
    } in
    let is = sym c.in_ok-items.ensures
    ∙ ap (λ o. option_map (λ v. map item v.items) o) c.in-Some.is in
    ok_then c.advance.result
    (λ t h. λ rest. h rest ∙ ap (unwound rest c.args.levels.now.items)
    (opened_list rest l (got c.args.list) (map item c.in-Some.items.items) c.new.ensures.items
    (ap (λ (xs : List Item). map item xs) c.into_iter.ensures.rest) is))
    c.advance.ensures.value
