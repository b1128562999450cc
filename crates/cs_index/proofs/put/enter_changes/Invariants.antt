use Rattle.std.proofs.Common.{◌≡◌, drop}
use Rattle.cs_view.specs.View.{edits}
use Rattle.cs_index.specs.Entries.{has_entry, enters, or_some}
use Rattle.cs_index.specs.declared.entry.Entry.{Entry}
use Rattle.cs_index.proofs.put.enter_changes.Given as goal

abbrev pub invariant-loop-change : goal.invariant-loop-change
invariant-loop-change l =
    (q : Entry) → or_some (enters l.coding l.docs q) (edits (drop l.change-index l.changes)) (has_entry l.entries q) ≡ or_some (enters l.coding l.docs q) (edits l.changes) (has_entry l.fn.entries q)
