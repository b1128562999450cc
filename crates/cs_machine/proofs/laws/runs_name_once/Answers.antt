use Rattle.cs_machine.proofs.Named.{runs-name-once}
use Rattle.cs_machine.proofs.laws.runs_name_once.Goals as goal

pub returns : goal.returns
returns c = runs-name-once
