use Rattle.std.proofs.Common.{arith, ap, ◌∙◌}
use Rattle.cs_syntax.specs.Signs.{sign_of}
use Rattle.cs_syntax.proofs.SignBytes.{two_bytes, three_bytes}
use Rattle.cs_syntax.proofs.sign.Sign.of.Goals as goal

pub returns-in-len2 : goal.returns-in-len2
returns-in-len2 c = c.of_two.ensures ∙ two_bytes c.as_bytes.result.now (omega arith)
    ∙ ap sign_of c.as_bytes.ensures.value

pub returns-in-len3 : goal.returns-in-len3
returns-in-len3 c = c.of_three.ensures ∙ three_bytes c.as_bytes.result.now (omega arith)
    ∙ ap sign_of c.as_bytes.ensures.value
