use Rattle.cs_jsonmatch.proofs.Verdicts.{is_verdict}
use Rattle.cs_jsonmatch.proofs.laws.reading_is_verdict.Goals as goal

pub returns : goal.returns
returns c = is_verdict
