use Rattle.std.proofs.Common.{◌≡◌, Some, Ok, Err, sym, ap, ◌∙◌}
use Rattle.std_collections.specs.Layout.BTreeMap.{seek}
use Rattle.cs_value.specs.Entries.{compares}
use Rattle.cs_value.proofs.Places.{found, removed, absent, unchanged}
use Rattle.cs_value.proofs.map.row.take.Goals as goal

pub returns-in-Ok-clause-value : goal.returns-in-Ok-clause-value
returns-in-Ok-clause-value g c =
    let row = c.args.row.now.items in
    let text = c.args.name.now in
    let is : seek (compares text) row ≡ Ok c.in-Ok.at =
    ap (λ r. seek (compares text) r) (sym c.as_slice.ensures.value) ∙ sym c.in-Ok.ensures.place in
    ap Some (ap (λ x. x.1) c.remove-value.ensures.value)
    ∙ sym (found text row c.in-Ok.at c.remove-value.result is)

pub returns-in-Ok-clause-left : goal.returns-in-Ok-clause-left
returns-in-Ok-clause-left g c =
    let row = c.args.row.now.items in
    let text = c.args.name.now in
    let is : seek (compares text) row ≡ Ok c.in-Ok.at =
    ap (λ r. seek (compares text) r) (sym c.as_slice.ensures.value) ∙ sym c.in-Ok.ensures.place in
    c.remove-value.ensures.items ∙ removed text row c.in-Ok.at is

pub returns-in-Err-clause-value : goal.returns-in-Err-clause-value
returns-in-Err-clause-value g c =
    let row = c.args.row.now.items in
    let text = c.args.name.now in
    let is : seek (compares text) row ≡ Err c.in-Err.field-0 =
    ap (λ r. seek (compares text) r) (sym c.as_slice.ensures.value) ∙ sym c.in-Err.ensures.place in
    sym (absent text row c.in-Err.field-0 c.requires is)

pub returns-in-Err-clause-left : goal.returns-in-Err-clause-left
returns-in-Err-clause-left g c =
    let row = c.args.row.now.items in
    let text = c.args.name.now in
    let is : seek (compares text) row ≡ Err c.in-Err.field-0 =
    ap (λ r. seek (compares text) r) (sym c.as_slice.ensures.value) ∙ sym c.in-Err.ensures.place in
    sym (unchanged text row c.in-Err.field-0 c.requires is)
