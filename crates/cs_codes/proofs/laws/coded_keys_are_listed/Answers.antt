use Rattle.cs_codes.proofs.Coded.{coded_listed}
use Rattle.cs_codes.proofs.laws.coded_keys_are_listed.Goals as goal

pub returns : goal.returns
returns c = coded_listed
