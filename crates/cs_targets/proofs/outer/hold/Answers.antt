use Rattle.cs_targets.proofs.outer.hold.Goals as goal

pub returns : goal.returns
returns c = λ l. c.in_ok-insert.ensures.updates.0 (record { ref_ptr = c.args.location.ref_ptr; now = l })
