use Rattle.std.proofs.Common.{◌≡◌, true, cond}
use Rattle.std.specs.Vec.Iter.{into_iter_items}
use Rattle.cs_index.specs.Entries.{has_entry, is_in, Grows}
use Rattle.cs_index.specs.declared.entry.Entry.{Entry}
use Rattle.cs_index.proofs.put.put_in.Given as goal

abbrev pub invariant-loop-entry : goal.invariant-loop-entry
invariant-loop-entry l =
    ((q : Entry) → cond (is_in q (into_iter_items l.entry-iterator)) true (has_entry l.entries q) ≡ cond (is_in q l.fn.gained.items) true (has_entry l.fn.entries q))
    × Grows l.fn.entries l.entries
