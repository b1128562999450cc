use Rattle.std.proofs.Common.{◌≡◌, Ok, Err, sym, ap, ◌∙◌}
use Rattle.std_collections.specs.Layout.BTreeMap.{seek}
use Rattle.cs_value.specs.Entries.{compares}
use Rattle.cs_value.proofs.Places.{found, absent}
use Rattle.cs_value.proofs.map.row.search.Goals as goal

pub returns-in-Ok : goal.returns-in-Ok
returns-in-Ok g c =
    let row = c.args.row.now in
    let text = c.args.name.now in
    let is : seek (compares text) row ≡ Ok c.in-Ok.at =
    ap (λ t. seek (compares t) row) (sym c.as_str.ensures) ∙ sym c.in-Ok.ensures.place in
    sym (found text row c.in-Ok.at c.index-row-at.result is)

pub returns-in-Err : goal.returns-in-Err
returns-in-Err g c =
    let row = c.args.row.now in
    let text = c.args.name.now in
    let is : seek (compares text) row ≡ Err c.in-Err.field-0 =
    ap (λ t. seek (compares t) row) (sym c.as_str.ensures) ∙ sym c.in-Err.ensures.place in
    sym (absent text row c.in-Err.field-0 c.requires is)
