use Rattle.std.proofs.Common.{◌≡◌, false, cond}
use Rattle.std.specs.Vec.Iter.{into_iter_items}
use Rattle.cs_index.specs.Entries.{has_entry, is_in}
use Rattle.cs_index.specs.declared.entry.Entry.{Entry}
use Rattle.cs_index.proofs.put.take_out.Given as goal

abbrev pub invariant-loop-entry : goal.invariant-loop-entry
invariant-loop-entry l = (q : Entry) → cond (is_in q (into_iter_items l.entry-iterator)) false (has_entry l.entries q) ≡ cond (is_in q l.fn.lost.items) false (has_entry l.fn.entries q)
