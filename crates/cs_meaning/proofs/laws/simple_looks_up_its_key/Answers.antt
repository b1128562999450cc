use Rattle.cs_meaning.proofs.Simple.{simple-looked}
use Rattle.cs_meaning.proofs.laws.simple_looks_up_its_key.Goals as goal

pub returns : goal.returns
returns c = simple-looked
