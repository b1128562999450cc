use Rattle.cs_reply.proofs.refusal.Refusal.write.Goals as goal

pub returns-in-Unsupported : goal.returns-in-Unsupported
returns-in-Unsupported c = rw (c.in-Unsupported.is, c.in-Unsupported.name-is) c.with_name.ensures

pub returns-in-NotListenable : goal.returns-in-NotListenable
returns-in-NotListenable c = rw c.in-NotListenable.is c.plain-in-NotListenable.ensures
