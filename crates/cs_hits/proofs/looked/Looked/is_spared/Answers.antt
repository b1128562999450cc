use Rattle.std.proofs.Common.{◌∙◌, ap, sym}
use Rattle.cs_codes.specs.Codes.{is_among}
use Rattle.cs_hits.specs.Looked.{sole_mark}
use Rattle.cs_hits.proofs.Marked.{marked-otherwise}
use Rattle.cs_hits.proofs.looked.Looked.is_spared.Goals as goal

pub returns-then-not-has_mark : goal.returns-then-not-has_mark
returns-then-not-has_mark c = λ spared cs changes is.
    marked-otherwise c.in-Some.mark c.args.self.now cs
    (sym c.in-Some.is ∙ c.self.invariant ∙ ap sole_mark c.self.view_is) changes
    (ap (is_among c.in-Some.mark) (sym is) ∙ sym c.if-not-has_mark.ensures)
