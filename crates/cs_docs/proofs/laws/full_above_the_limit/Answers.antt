use Rattle.cs_docs.proofs.Clean.{full-above}
use Rattle.cs_docs.proofs.laws.full_above_the_limit.Goals as goal

pub returns : goal.returns
returns c = full-above
