use Rattle.std.proofs.Common.{sym, ap, ◌∙◌}
use Rattle.cs_value.specs.Entries.{compares}
use Rattle.cs_value.proofs.Ascents.{above_last}
use Rattle.cs_value.proofs.map.row.gap.Goals as goal

pub returns-in-Greater-clause-place : goal.returns-in-Greater-clause-place
returns-in-Greater-clause-place g c =
    let row = c.args.row.now in
    let text = c.args.name.now in
    let o = ap (compares text) (sym c.as_str.ensures) ∙ sym c.compared.ensures ∙ c.in-Greater.is in
    sym (above_last text row c.in-Some.field-0.now c.requires c.in-Some.ensures.value o)
