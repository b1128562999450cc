use Rattle.cs_index.proofs.Joining.{gained, grown}
use Rattle.cs_index.proofs.put.put_ascending.Goals as goal

pub returns-in_err-append-clause-grows : goal.returns-in_err-append-clause-grows
returns-in_err-append-clause-grows c = grown c.in_ok-apart.apart c.append.new.other c.args.entries.now c.append.new.self c.append.ensures.moves

pub returns-clause-gain : goal.returns-clause-gain
returns-clause-gain c = gained c.args.gained.items c.in_ok-apart.apart c.args.entries.now c.append.new.self c.in_ok-apart.ensures c.in_ok-append.ensures.inserts_all

pub returns-clause-grows : goal.returns-clause-grows
returns-clause-grows c = grown c.in_ok-apart.apart c.append.new.other c.args.entries.now c.append.new.self c.append.ensures.moves
