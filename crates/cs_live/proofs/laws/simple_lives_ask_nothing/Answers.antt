use Rattle.cs_live.proofs.Simple.{simple_quiet}
use Rattle.cs_live.proofs.laws.simple_lives_ask_nothing.Goals as goal

pub returns : goal.returns
returns c = simple_quiet
