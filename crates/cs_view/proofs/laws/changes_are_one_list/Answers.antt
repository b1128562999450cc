use Rattle.cs_view.proofs.Changed.{between-one}
use Rattle.cs_view.proofs.laws.changes_are_one_list.Goals as goal

pub returns : goal.returns
returns c = between-one
