use Rattle.cs_view.proofs.Changed.{own_ids, before_changes-now, after_changes-leads, before_changes-after_changes}
use Rattle.cs_view.proofs.laws.changes_lead_on_and_back.Goals as goal

pub returns : goal.returns
returns c = λ docs cs h changes leads. (before_changes-now docs cs h (own_ids cs changes) leads, after_changes-leads docs cs changes, before_changes-after_changes docs cs h (own_ids cs changes) leads)
