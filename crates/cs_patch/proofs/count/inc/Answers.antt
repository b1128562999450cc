use Rattle.std.proofs.Common.{ap, sym, subst, ◌∙◌}
use Rattle.cs_value.specs.View.{tree}
use Rattle.cs_alter.specs.Alterations.{counted}
use Rattle.cs_patch.specs.Operations.{along, count_by, inc_path}
use Rattle.cs_patch.specs.Entries.{number_at}
use Rattle.cs_patch.specs.Outcomes.{IsStop}
use Rattle.cs_patch.proofs.count.inc.Goals as goal

pub returns-in-Ok : goal.returns-in-Ok
returns-in-Ok c =
    let e = c.args.entry.now in
    let v = tree c.args.val.now in
    ap (λ z. along e.text.now (count_by (counted z) e.text.now) v) (sym c.adding-change.ensures)
    ∙ c.in-Ok.ensures

pub returns-in-Err : goal.returns-in-Err
returns-in-Err c =
    let e = c.args.entry.now in
    let v = tree c.args.val.now in
    c.told.ensures (inc_path (number_at e) v)
    (subst (λ z. IsStop e.text.now (along e.text.now (count_by (counted z) e.text.now) v)
    c.in-Err.stop) c.adding-change.ensures c.in-Err.ensures)
