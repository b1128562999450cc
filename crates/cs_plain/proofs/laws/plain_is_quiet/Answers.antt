use Rattle.cs_plain.proofs.Quiet.{quiet-plain, listened-plain}
use Rattle.cs_plain.proofs.laws.plain_is_quiet.Goals as goal

pub returns : goal.returns
returns c = λ q filter h.
    let g = quiet-plain filter (listened-plain q filter h) in
    (g, λ params scope d1 d2. (c.quiet_asks_nothing.ensures filter params scope d1 d2 g).1)
