use Rattle.std.proofs.Common.{sym, ap, ◌∙◌}
use Rattle.std.proofs.lemmas.Map.Text.{is_eq-slice_cmp}
use Rattle.std.specs.BTreeMap.{is_at}
use Rattle.cs_value.specs.Entries.{compares}
use Rattle.cs_value.proofs.Views.{names_apart}
use Rattle.cs_value.proofs.map.name.Name.is.Goals as goal

pub returns-then-is_alike : goal.returns-then-is_alike
returns-then-is_alike c =
    c.eq.ensures ∙ sym (is_eq-slice_cmp c.args.text.now c.as_str-own.result.now)
    ∙ ap (is_at (compares c.args.text.now)) c.as_str-own.ensures

pub returns-else-is_alike : goal.returns-else-is_alike
returns-else-is_alike c =
    names_apart c.args.text.now c.as_str-own.result.now c.is_alike.result c.is_alike.ensures
    c.if-is_alike.false ∙ ap (is_at (compares c.args.text.now)) c.as_str-own.ensures
