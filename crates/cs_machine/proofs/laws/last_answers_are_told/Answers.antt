use Rattle.cs_machine.proofs.Told.{last-told}
use Rattle.cs_machine.proofs.laws.last_answers_are_told.Goals as goal

pub returns : goal.returns
returns c = last-told
