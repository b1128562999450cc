use Rattle.std.proofs.Common.{leb-true}
use Rattle.cs_syntax.specs.Queries.{expression_of}
use Rattle.cs_hits.proofs.Nearing.{is_within}
use Rattle.cs_hits.proofs.near.is_enough.Goals as goal

pub returns-in-Some : goal.returns-in-Some
returns-in-Some c = λ h. is_within (expression_of c.args.query.now) c.in-Some.many c.args.count c.in-Some.ensures.many (leb-true c.in-Some.many c.args.count h)
