use Rattle.std.proofs.Common.{◌∙◌, List, ap, sym, subst}
use Rattle.std.proofs.lemmas.Result.{IfOk-weaker}
use Rattle.cs_value.specs.View.{fields}
use Rattle.cs_value.specs.Words.{list_of}
use Rattle.cs_json.specs.Text.{json_text}
use Rattle.cs_syntax.specs.Queries.{expression_of}
use Rattle.cs_hits.specs.Shares.{AreShares, share_values}
use Rattle.cs_hits.specs.declared.share.Share.{Share}
use Rattle.cs_kept.specs.Fits.{FitsKept, FitsShares}
use Rattle.cs_kept.specs.Kept.{last_of}
use Rattle.cs_kept.specs.declared.kept.Kept.{Kept}
use Rattle.cs_kept.proofs.kept.Kept.text.Goals as goal

pub returns-in-InShares : goal.returns-in-InShares
returns-in-InShares c = λ docs fits.
    let m = c.in-InShares.kept in let e = expression_of m.query in let params = fields m.params in
    let here : FitsShares docs m = subst (λ (k : Kept). FitsKept docs k) c.in-InShares.is fits in
    IfOk-weaker c.text_of.result _ _
    (λ b h. h ∙ ap (λ (ss : List Share). json_text (list_of (share_values ss))) c.deref.ensures.value
    ∙ ap json_text (sym here.last) ∙ ap (λ (k : Kept). json_text (last_of k)) (sym c.in-InShares.is))
    (c.text_of.ensures docs e params (subst (λ (ss : List Share). AreShares docs e params ss) (sym c.deref.ensures.value) here.shares))
