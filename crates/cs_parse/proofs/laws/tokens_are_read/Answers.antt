use Rattle.cs_parse.proofs.Verdicts.{lexing_is}
use Rattle.cs_parse.proofs.laws.tokens_are_read.Goals as goal

pub returns : goal.returns
returns c = lexing_is
