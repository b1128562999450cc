use Rattle.std.proofs.Common.{subst}
use Rattle.cs_parse.specs.Verdict.{IsRead, verdict}
use Rattle.cs_parse.proofs.Verdicts.{is_read}
use Rattle.cs_parse.proofs.laws.reading_is_verdict.Goals as goal

pub returns : goal.returns
returns c text r = (
  λ h. c.a_text_is_one_query_at_most.ensures text (verdict text) r (is_read text) h,
  λ e. subst
      (IsRead text) e (is_read text),
)
