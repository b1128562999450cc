use Rattle.cs_meaning.proofs.Silent.{silent}
use Rattle.cs_meaning.proofs.Simple.{quiet-value}
use Rattle.cs_meaning.proofs.laws.quiet_asks_nothing.Goals as goal

pub returns : goal.returns
returns c = λ e params scope d1 d2 q. (silent d1 params e q scope, quiet-value d1 d2 params e scope q)
