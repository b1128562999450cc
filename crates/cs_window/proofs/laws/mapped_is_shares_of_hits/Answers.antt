use Rattle.cs_window.proofs.Each.{mapped-hits}
use Rattle.cs_window.proofs.laws.mapped_is_shares_of_hits.Goals as goal

pub returns : goal.returns
returns c = mapped-hits
