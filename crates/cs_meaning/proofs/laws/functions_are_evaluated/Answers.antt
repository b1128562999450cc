use Rattle.cs_meaning.proofs.Callees.{arity_is_taken}
use Rattle.cs_meaning.proofs.laws.functions_are_evaluated.Goals as goal

pub returns : goal.returns
returns c = arity_is_taken
