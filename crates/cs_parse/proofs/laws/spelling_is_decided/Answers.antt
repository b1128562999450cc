use Rattle.cs_parse.proofs.Spelled.{is_spelling}
use Rattle.cs_parse.proofs.laws.spelling_is_decided.Goals as goal

pub returns : goal.returns
returns c = is_spelling
