use Rattle.cs_docs.proofs.Clean.{none-is-clean}
use Rattle.cs_docs.proofs.laws.none_dangles_where_clean.Goals as goal

pub returns : goal.returns
returns c = λ docs. none-is-clean docs
