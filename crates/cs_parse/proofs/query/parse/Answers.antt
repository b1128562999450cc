use Rattle.std.proofs.lemmas.Option.{IfSome_then}
use Rattle.cs_parse.specs.Verdict.{reading}
use Rattle.cs_parse.proofs.query.parse.Goals as goal

pub returns : goal.returns
returns c = IfSome_then (reading c.read_text.result) c.read_text.ensures
    (λ r h. (c.reading_is_verdict.ensures c.args.text.now r).0 h)
