use Rattle.cs_meaning.proofs.RestNull.{rest-null}
use Rattle.cs_meaning.proofs.laws.rest_keeps_null.Goals as goal

pub returns : goal.returns
returns c = λ params scope docs ss. rest-null docs params scope ss
