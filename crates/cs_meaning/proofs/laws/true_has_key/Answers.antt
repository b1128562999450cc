use Rattle.cs_meaning.proofs.TrueKey.{true-has_key}
use Rattle.cs_meaning.proofs.laws.true_has_key.Goals as goal

pub returns : goal.returns
returns c = λ e params scope docs d h. true-has_key docs params e scope d h
