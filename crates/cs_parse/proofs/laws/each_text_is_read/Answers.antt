use Rattle.cs_parse.proofs.Verdicts.{is_read}
use Rattle.cs_parse.proofs.laws.each_text_is_read.Goals as goal

pub returns : goal.returns
returns c = is_read
