use Rattle.cs_meaning.proofs.Simple.{simple-tail}
use Rattle.cs_meaning.proofs.laws.simple_is_tail_of_hits.Goals as goal

pub returns : goal.returns
returns c = simple-tail
