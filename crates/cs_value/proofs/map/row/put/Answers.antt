use Rattle.std.proofs.Common.{◌≡◌, Ok, Err, Some, set, sym, ap, ◌∙◌}
use Rattle.std_collections.specs.Layout.BTreeMap.{seek}
use Rattle.std_collections.proofs.Seek.{insert_entry_err}
use Rattle.cs_value.specs.Entries.{compares}
use Rattle.cs_value.proofs.Places.{written_over, found, absent}
use Rattle.cs_value.proofs.map.row.put.Goals as goal

pub returns-in-Ok-clause-old : goal.returns-in-Ok-clause-old
returns-in-Ok-clause-old g c =
    let row = c.args.row.now.items in
    let text = c.args.name in
    let at = c.in-Ok.at in
    let is : seek (compares text) row ≡ Ok at =
    ap (λ t. seek (compares t) row) (sym c.as_str.ensures)
    ∙ ap (λ r. seek (compares c.as_str.result.now) r) (sym c.as_slice.ensures.value)
    ∙ sym c.in-Ok.ensures.place in
    ap Some (c.replace.ensures.value ∙ ap (λ x. x.1) c.index_mut.ensures.value)
    ∙ sym (found text row at c.index_mut.result.now is)

pub returns-in-Ok-clause-entries : goal.returns-in-Ok-clause-entries
returns-in-Ok-clause-entries g c =
    let row = c.args.row.now.items in
    let at = c.in-Ok.at in
    let is : seek (compares c.args.name) row ≡ Ok at =
    ap (λ t. seek (compares t) row) (sym c.as_str.ensures)
    ∙ ap (λ r. seek (compares c.as_str.result.now) r) (sym c.as_slice.ensures.value)
    ∙ sym c.in-Ok.ensures.place in
    (λ i. set row at ((c.index_mut.ensures.value i).0, c.replace.ensures.after i))
    ∙ written_over row at c.index_mut.result.now c.args.name c.args.value is

pub returns-in_ok-enter-in-Err-clause-old : goal.returns-in_ok-enter-in-Err-clause-old
returns-in_ok-enter-in-Err-clause-old g c =
    let row = c.args.row.now.items in
    let text = c.args.name in
    let at = c.in-Err.at in
    let is : seek (compares text) row ≡ Err at =
    ap (λ t. seek (compares t) row) (sym c.as_str.ensures)
    ∙ ap (λ r. seek (compares c.as_str.result.now) r) (sym c.as_slice.ensures.value)
    ∙ sym c.in-Err.ensures.place in
    sym (absent text row at c.requires is)

pub returns-in_ok-enter-in-Err-clause-entries : goal.returns-in_ok-enter-in-Err-clause-entries
returns-in_ok-enter-in-Err-clause-entries g c =
    let row = c.args.row.now.items in
    let at = c.in-Err.at in
    let is : seek (compares c.args.name) row ≡ Err at =
    ap (λ t. seek (compares t) row) (sym c.as_str.ensures)
    ∙ ap (λ r. seek (compares c.as_str.result.now) r) (sym c.as_slice.ensures.value)
    ∙ sym c.in-Err.ensures.place in
    c.in_ok-enter-in-Err.ensures.items
    ∙ insert_entry_err compares c.args.name c.args.value row at is
