use Rattle.cs_window.proofs.Over.{simple-filtered}
use Rattle.cs_window.proofs.laws.simple_is_filtered.Goals as goal

pub returns : goal.returns
returns c = simple-filtered
