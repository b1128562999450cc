use Rattle.cs_window.proofs.Windows.{tail-near}
use Rattle.cs_window.proofs.laws.window_settles_tail.Goals as goal

pub returns : goal.returns
returns c = tail-near
