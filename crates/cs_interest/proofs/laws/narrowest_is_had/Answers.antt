use Rattle.cs_interest.proofs.Narrowing.{narrowest_had}
use Rattle.cs_interest.proofs.laws.narrowest_is_had.Goals as goal

pub returns : goal.returns
returns c = narrowest_had
