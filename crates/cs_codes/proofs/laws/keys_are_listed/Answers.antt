use Rattle.cs_codes.proofs.Listed.{listed}
use Rattle.cs_codes.proofs.laws.keys_are_listed.Goals as goal

pub returns : goal.returns
returns c = listed
