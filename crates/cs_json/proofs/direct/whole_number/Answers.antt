use Rattle.std.proofs.Common.{◌≡◌, drop, get_or, true, false, ◌==◌, sym, ap, ◌∙◌, arith, take_all, length-drop, to_z-of_z, subst, FitsSigned, w64}
use Rattle.fast_float.specs.Text.{scan}
use Rattle.serde_json.specs.Read.{number_of, number_from}
use Rattle.cs_json.proofs.Made.{unsigned_read, negative_read}
use Rattle.cs_json.proofs.direct.whole_number.Goals as goal

pub returns-then-not-has_minus-clause-value : goal.returns-then-not-has_minus-clause-value
unfolding number_of
returns-then-not-has_minus-clause-value c =
    let s = c.as_bytes-bytes.result.now in
    let unsigned : (get_or s 0 0 == 45) ≡ false = sym c.has_minus.ensures.value ∙ c.if-not-has_minus.true in
    let read : number_from false (scan s) ≡ number_of s = rw unsigned in
    let parts = ap (number_from false) c.scan.ensures.parts ∙ read ∙ ap number_of c.as_bytes-bytes.ensures.value in
    unsigned_read c.to_i64.result c.scan.result (number_of c.args.text.now) parts c.to_i64.ensures

pub returns-then-n-lt0-clause-value : goal.returns-then-n-lt0-clause-value
unfolding number_of
returns-then-n-lt0-clause-value c =
    let s = c.as_bytes-bytes.result.now in
    let signed : (get_or s 0 0 == 45) ≡ true = sym c.has_minus.ensures.value ∙ c.if-not-has_minus.false in
    let parts : c.scan-2.result ≡ scan (drop 1 s) = c.scan-2.ensures.parts ∙ ap scan (take_all _ (drop 1 s) (omega (arith, length-drop 1 s))) in
    let read : number_from true (scan (drop 1 s)) ≡ number_of s = rw signed in
    let all = ap (number_from true) parts ∙ read ∙ ap number_of c.as_bytes-bytes.ensures.value in
    let e = c.in_ok-n.ensures in
    let same = to_z-of_z (subst (FitsSigned w64) (sym e.1) e.0.1) in
    negative_read _ c.scan-2.result (number_of c.args.text.now) all c.if-n-lt0.true (e.0, same ∙ e.1)
