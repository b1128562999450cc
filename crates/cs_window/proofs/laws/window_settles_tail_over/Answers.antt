use Rattle.cs_window.proofs.Over.{windowed-near}
use Rattle.cs_window.proofs.laws.window_settles_tail_over.Goals as goal

pub returns : goal.returns
returns c = windowed-near
