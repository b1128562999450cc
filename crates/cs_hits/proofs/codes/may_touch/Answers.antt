use Rattle.std.proofs.Common.{◌∙◌, ap, sym}
use Rattle.std.specs.List.{list_any}
use Rattle.cs_codes.specs.Codes.{is_among}
use Rattle.cs_view.specs.View.{edits}
use Rattle.cs_hits.proofs.Coding.{none-touched}
use Rattle.cs_hits.proofs.codes.may_touch.Goals as goal

pub returns : goal.returns
returns c = λ unset ks sought.
    none-touched c.touched_has_code.ensures c.args.seed.now (edits c.args.changes.now) ks
    c.args.codes.now sought
    (sym c.has_code.ensures ∙ c.if-has_code.false)
    (ap (list_any (λ n. is_among n c.args.codes.now)) (sym (c.deref.ensures.value ∙ c.in_ok-changed.ensures)) ∙ sym c.has_some.ensures ∙ unset)
