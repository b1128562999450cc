use Rattle.cs_meaning.proofs.TrueKey.{true-has_all, all-have_key}
use Rattle.cs_meaning.proofs.laws.true_has_each_key.Goals as goal

pub returns : goal.returns
returns c = λ e params scope docs d. (λ h. true-has_all docs params e scope d h, λ h. all-have_key e scope params d h)
