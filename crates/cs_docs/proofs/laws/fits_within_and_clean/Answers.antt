use Rattle.cs_docs.proofs.Clean.{fits-within-clean}
use Rattle.cs_docs.proofs.laws.fits_within_and_clean.Goals as goal

pub returns : goal.returns
returns c = λ docs. fits-within-clean docs
