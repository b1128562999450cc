use Rattle.cs_core.proofs.Simple.{keep_simple}
use Rattle.cs_core.proofs.laws.simple_lines_keep_lives_simple.Goals as goal

pub returns : goal.returns
returns c = keep_simple
