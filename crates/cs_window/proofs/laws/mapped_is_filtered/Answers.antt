use Rattle.cs_window.proofs.Each.{mapped-filtered}
use Rattle.cs_window.proofs.laws.mapped_is_filtered.Goals as goal

pub returns : goal.returns
returns c = mapped-filtered
