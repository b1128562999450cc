use Rattle.cs_ops.proofs.Ranked.{total-laws}
use Rattle.cs_ops.proofs.laws.total_is_a_preorder.Goals as goal

pub returns-clause-preorder : goal.returns-clause-preorder
returns-clause-preorder c = total-laws
