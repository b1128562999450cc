use Rattle.cs_window.proofs.Over.{tail-settled}
use Rattle.cs_window.proofs.laws.looked_settles_tail.Goals as goal

pub returns : goal.returns
returns c = tail-settled
