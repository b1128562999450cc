use Rattle.cs_window.proofs.Each.{share-settled}
use Rattle.cs_window.proofs.laws.looked_settles_share.Goals as goal

pub returns : goal.returns
returns c = share-settled
