use Rattle.cs_interest.proofs.Listing.{touched_listed}
use Rattle.cs_interest.proofs.laws.touched_has_code.Goals as goal

pub returns : goal.returns
returns c = touched_listed c.keys_are_listed.ensures
