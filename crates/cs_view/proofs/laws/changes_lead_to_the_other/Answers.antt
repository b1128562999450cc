use Rattle.cs_view.proofs.Changed.{between-lead}
use Rattle.cs_view.proofs.laws.changes_lead_to_the_other.Goals as goal

pub returns : goal.returns
returns c = between-lead
