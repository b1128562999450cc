use Rattle.cs_view.proofs.Changed.{dataset-before_changes, dataset-after_changes}
use Rattle.cs_view.proofs.laws.changes_keep_datasets.Goals as goal

pub returns : goal.returns
returns c = λ docs cs h g. (dataset-before_changes docs cs h g, dataset-after_changes docs cs h g)
