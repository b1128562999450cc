use Rattle.cs_view.proofs.Datasets.{same_docs}
use Rattle.cs_view.proofs.laws.holding_the_same_is_being_one.Goals as goal

pub returns : goal.returns
returns c = same_docs
