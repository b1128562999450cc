use Rattle.cs_docs.proofs.Entering.{entering-clean}
use Rattle.cs_docs.proofs.laws.without_references_it_stays_clean.Goals as goal

pub returns : goal.returns
returns c = entering-clean
