use Rattle.cs_listen.proofs.Posted.{none_begins}
use Rattle.cs_listen.proofs.postings.begins.Goals as goal

pub returns-in-Some : goal.returns-in-Some
returns-in-Some c = λ no n. none_begins c.args.code n c.args.postings.now c.in-Some.first.now c.in-Some.ensures.value c.requires.ascend c.requires.least no
