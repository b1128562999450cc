use Rattle.cs_reply.proofs.stated.Stop.write.Goals as goal

pub returns-in-TooLong : goal.returns-in-TooLong
returns-in-TooLong c = rw (c.in-TooLong.is, c.in-TooLong.source-is, c.in-TooLong.line-is) c.size.ensures

pub returns-in-TooMuch : goal.returns-in-TooMuch
returns-in-TooMuch c = rw (c.in-TooMuch.is, c.in-TooMuch.source-is, c.in-TooMuch.line-is) c.size-in-TooMuch.ensures
