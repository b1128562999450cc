use Rattle.cs_faults.proofs.NamedFunctions.{is_not_left_out}
use Rattle.cs_faults.proofs.laws.no_function_is_left_out.Goals as goal

pub returns : goal.returns
returns c = is_not_left_out
