use Rattle.cs_machine.proofs.Held.{runs-hold}
use Rattle.cs_machine.proofs.laws.runs_hold_datasets.Goals as goal

pub returns : goal.returns
returns c = runs-hold c.commits_keep_datasets.ensures
