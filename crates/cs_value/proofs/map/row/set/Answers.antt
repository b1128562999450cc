use Rattle.std.proofs.Common.{◌≡◌, Ok, Err, set, sym, ap, ◌∙◌}
use Rattle.std.proofs.lemmas.Result.{IfOk-weaker}
use Rattle.std.specs.List.{insert}
use Rattle.std.specs.BTreeMap.{insert_entry}
use Rattle.std_collections.specs.Layout.BTreeMap.{seek}
use Rattle.std_collections.proofs.Seek.{insert_entry_err}
use Rattle.cs_value.specs.Entries.{compares}
use Rattle.cs_value.proofs.Places.{written_over}
use Rattle.cs_value.proofs.map.row.set.Goals as goal

pub returns-in-Ok-clause-entries : goal.returns-in-Ok-clause-entries
returns-in-Ok-clause-entries g c =
    let row = c.args.row.now.items in
    let at = c.in-Ok.at in
    let is : seek (compares c.args.name) row ≡ Ok at =
    ap (λ t. seek (compares t) row) (sym c.as_str.ensures)
    ∙ ap (λ r. seek (compares c.as_str.result.now) r) (sym c.as_slice.ensures.value)
    ∙ sym c.in-Ok.ensures.place in
    ap (λ e. set row at (e.0, c.args.value)) c.index_mut.ensures.value
    ∙ written_over row at c.index_mut.result.now c.args.name c.args.value is

pub returns-in-Err-clause-entries : goal.returns-in-Err-clause-entries
returns-in-Err-clause-entries g c =
    let row = c.args.row.now.items in
    let at = c.in-Err.at in
    let is : seek (compares c.args.name) row ≡ Err at =
    ap (λ t. seek (compares t) row) (sym c.as_str.ensures)
    ∙ ap (λ r. seek (compares c.as_str.result.now) r) (sym c.as_slice.ensures.value)
    ∙ sym c.in-Err.ensures.place in
    IfOk-weaker c.enter.result
    (λ _. c.enter.new.row.items ≡ insert row at (c.args.name, c.args.value))
    (λ _. c.enter.new.row.items ≡ insert_entry compares row c.args.name c.args.value)
    (λ _ items. items ∙ insert_entry_err compares c.args.name c.args.value row at is)
    c.enter.ensures.items
