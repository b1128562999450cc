use Rattle.cs_machine.proofs.Noted.{used-stay}
use Rattle.cs_machine.proofs.laws.used_ids_stay_used.Goals as goal

pub returns : goal.returns
returns c = used-stay
