use Rattle.cs_view.proofs.Untouched.{untouched-keys}
use Rattle.cs_view.proofs.laws.untouched_selects_the_same.Goals as goal

pub returns : goal.returns
returns c = untouched-keys
