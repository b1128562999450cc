use Rattle.cs_window.proofs.Windows.{tail-first}
use Rattle.cs_window.proofs.laws.first_settle_tail.Goals as goal

pub returns : goal.returns
returns c = tail-first
