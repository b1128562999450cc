use Rattle.cs_view.proofs.Changed.{own_ids, standing-before_changes, standing-after_changes}
use Rattle.cs_view.proofs.laws.changes_are_held.Goals as goal

pub returns : goal.returns
returns c = λ docs cs changes id. (standing-before_changes id docs cs (own_ids cs changes), standing-after_changes id docs cs (own_ids cs changes))
