use Rattle.cs_view.proofs.Between.{computed}
use Rattle.cs_view.proofs.laws.changes_are_computed.Goals as goal

pub returns : goal.returns
returns c = computed
