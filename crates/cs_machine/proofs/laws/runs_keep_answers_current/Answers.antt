use Rattle.cs_machine.proofs.Held.{runs-current}
use Rattle.cs_machine.proofs.laws.runs_keep_answers_current.Goals as goal

pub returns : goal.returns
returns c = runs-current
