use Rattle.cs_machine.proofs.Noted.{used-once}
use Rattle.cs_machine.proofs.laws.ids_are_used_once.Goals as goal

pub returns : goal.returns
returns c = used-once
