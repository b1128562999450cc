use Rattle.std.proofs.Common.{ap, ◌∙◌}
use Rattle.cs_parse.specs.Verdict.{verdict}
use Rattle.cs_recent.proofs.Keeping.{kept}
use Rattle.cs_recent.proofs.recent.Recent.keep.Goals as goal

pub invariant_of-self-in-Some : goal.invariant_of-self-in-Some
invariant_of-self-in-Some c =
    kept c.put.result c.self.inside.queries c.put.new.self c.in-Some.copy c.args.read
    c.put.ensures.entries c.put.ensures.err c.self.invariant
    (ap verdict c.in-Some.ensures ∙ c.requires)
