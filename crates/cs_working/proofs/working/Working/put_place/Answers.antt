use Rattle.std.proofs.Common.{◌∙◌, Some, ap}
use Rattle.cs_working.proofs.Placing.{behind_at}
use Rattle.cs_working.proofs.working.Working.put_place.Goals as goal

pub returns-in-Some : goal.returns-in-Some
returns-in-Some c = ap Some (behind_at c.args.self.now c.in-Some.place) ∙ c.in-Some.ensures.found
