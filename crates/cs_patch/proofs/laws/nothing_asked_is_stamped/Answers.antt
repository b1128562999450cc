use Rattle.cs_patch.proofs.Stamped.{nothing-asked}
use Rattle.cs_patch.proofs.laws.nothing_asked_is_stamped.Goals as goal

pub returns : goal.returns
returns c = λ p d e tx moment h none g. nothing-asked p d e tx moment h none g
