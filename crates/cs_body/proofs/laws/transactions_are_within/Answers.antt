use Rattle.cs_body.proofs.Lengths.{transaction_within}
use Rattle.cs_body.proofs.laws.transactions_are_within.Goals as goal

pub returns : goal.returns
returns c = transaction_within
