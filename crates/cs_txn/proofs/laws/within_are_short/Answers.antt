use Rattle.cs_txn.proofs.Shortness.{are_short}
use Rattle.cs_txn.proofs.laws.within_are_short.Goals as goal

pub returns : goal.returns
returns c = are_short
