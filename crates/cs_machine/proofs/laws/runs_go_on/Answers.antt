use Rattle.cs_machine.proofs.Onward.{runs-on}
use Rattle.cs_machine.proofs.laws.runs_go_on.Goals as goal

pub returns : goal.returns
returns c = runs-on
