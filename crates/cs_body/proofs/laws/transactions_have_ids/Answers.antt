use Rattle.cs_body.proofs.Lengths.{transaction_has_id}
use Rattle.cs_body.proofs.laws.transactions_have_ids.Goals as goal

pub returns : goal.returns
returns c = transaction_has_id
