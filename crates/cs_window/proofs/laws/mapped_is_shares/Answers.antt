use Rattle.cs_window.proofs.Each.{mapped-shares}
use Rattle.cs_window.proofs.laws.mapped_is_shares.Goals as goal

pub returns : goal.returns
returns c = mapped-shares
