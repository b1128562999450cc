use Rattle.cs_window.proofs.Over.{windowed-hits}
use Rattle.cs_window.proofs.laws.windowed_is_tail_of_hits.Goals as goal

pub returns : goal.returns
returns c = windowed-hits
