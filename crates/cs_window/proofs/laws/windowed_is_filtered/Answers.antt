use Rattle.cs_window.proofs.Over.{windowed-filtered}
use Rattle.cs_window.proofs.laws.windowed_is_filtered.Goals as goal

pub returns : goal.returns
returns c = windowed-filtered
