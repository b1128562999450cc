use Rattle.std.proofs.Common.{◌<◌, length, sym, ap, ◌∙◌, arith}
use Rattle.std.specs.BTreeMap.{is_at}
use Rattle.cs_value.specs.Entries.{compares}
use Rattle.cs_value.proofs.Places.{sole}
use Rattle.cs_value.proofs.map.row.find.Goals as goal

pub returns-then-is : goal.returns-then-is
returns-then-is g c =
    let row = c.args.row.now in
    let found = c.in-Some.field-0.now in
    let here : c.place.result < length row = omega (arith, c.in-Some.ensures.lookup) in
    let same = ap (λ t. is_at (compares t) found.0) (sym c.as_str.ensures)
    ∙ sym c.is.ensures ∙ c.if-is.true in
    sym (sole c.args.name.now row c.place.result found c.requires here
    c.in-Some.ensures.lookup.1 same)
