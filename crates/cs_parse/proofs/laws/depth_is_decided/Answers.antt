use Rattle.cs_parse.proofs.Deep.{to_deep, from_deep}
use Rattle.cs_parse.proofs.laws.depth_is_decided.Goals as goal

pub returns : goal.returns
returns c ts = (to_deep ts, from_deep ts)
