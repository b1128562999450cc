use Rattle.cs_live.proofs.entry.Entry.line.Goals as goal

pub returns : goal.returns
returns c = λ docs fits i. (c.in_ok-name.ensures i, c.in_ok-answer.ensures docs fits i)
