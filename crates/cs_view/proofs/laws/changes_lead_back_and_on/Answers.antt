use Rattle.cs_view.proofs.Changed.{own_ids, after_changes-now, before_changes-leads, after_changes-before_changes}
use Rattle.cs_view.proofs.laws.changes_lead_back_and_on.Goals as goal

pub returns : goal.returns
returns c = λ docs cs h changes leads. (
  after_changes-now docs cs h (own_ids cs changes) leads,
  before_changes-leads docs cs changes,
  after_changes-before_changes docs cs h (own_ids cs changes) leads,
)
