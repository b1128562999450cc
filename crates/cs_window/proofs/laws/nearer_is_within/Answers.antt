use Rattle.cs_window.proofs.Windows.{nearer-within}
use Rattle.cs_window.proofs.laws.nearer_is_within.Goals as goal

pub returns : goal.returns
returns c = nearer-within
