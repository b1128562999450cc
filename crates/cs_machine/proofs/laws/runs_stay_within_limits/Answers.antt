use Rattle.cs_machine.proofs.Limited.{runs-limited}
use Rattle.cs_machine.proofs.laws.runs_stay_within_limits.Goals as goal

pub returns : goal.returns
returns c = runs-limited
