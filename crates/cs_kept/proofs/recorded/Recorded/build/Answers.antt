use Rattle.cs_kept.proofs.recorded.Recorded.build.Goals as goal

pub returns-clause-coded : goal.returns-clause-coded
returns-clause-coded g c = c.in-Ok.ensures.coded
