use Rattle.std.proofs.Common.{◌∙◌, ap, eq-eqb, not, sym, true≢false}
use Rattle.cs_json.proofs.Escaped.{plain-byte}
use Rattle.cs_json.proofs.text.is_plain.Goals as goal

pub returns : goal.returns
returns c = λ h.
    plain-byte c.args.byte c.if-byte-lt32.false c.if-byte-eq34.false
    (λ is. true≢false (sym h ∙ ap not (eq-eqb c.args.byte 92 is)))
