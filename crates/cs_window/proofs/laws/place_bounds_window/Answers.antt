use Rattle.cs_window.proofs.Windows.{place-bounds}
use Rattle.cs_window.proofs.laws.place_bounds_window.Goals as goal

pub returns : goal.returns
returns c = place-bounds
