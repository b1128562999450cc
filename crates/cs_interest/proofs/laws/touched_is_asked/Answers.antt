use Rattle.cs_interest.proofs.Touching.{touched_asked}
use Rattle.cs_interest.proofs.laws.touched_is_asked.Goals as goal

pub returns : goal.returns
returns c = touched_asked c.keys_are_listed.ensures
