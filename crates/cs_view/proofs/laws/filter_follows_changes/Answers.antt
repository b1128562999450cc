use Rattle.cs_view.proofs.Kept.{filter_follows}
use Rattle.cs_view.proofs.laws.filter_follows_changes.Goals as goal

pub returns : goal.returns
returns c = filter_follows
