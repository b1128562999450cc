use Rattle.cs_jsonmatch.proofs.Fault.{one_path}
use Rattle.cs_jsonmatch.proofs.laws.a_text_spells_at_most_one_path.Goals as goal

pub returns : goal.returns
returns c = one_path
