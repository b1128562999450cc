use Rattle.cs_ops.proofs.Ranked.{equal-compared}
use Rattle.cs_ops.proofs.laws.partial_compares_each_kind.Goals as goal

pub returns-clause-equal : goal.returns-clause-equal
returns-clause-equal c = equal-compared
