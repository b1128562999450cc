use Rattle.std.proofs.Common.{◌≡◌, false, drop}
use Rattle.cs_view.specs.View.{edits}
use Rattle.cs_index.specs.Entries.{is_in, parts, gains, or_some}
use Rattle.cs_index.specs.declared.entry.Entry.{Entry}
use Rattle.cs_index.proofs.delta.delta_of.Given as goal

abbrev pub invariant-loop-change : goal.invariant-loop-change
invariant-loop-change l =
    ((q : Entry) → or_some (parts l.coding l.docs q) (edits (drop l.change-index l.changes)) (is_in q l.delta.lost.items) ≡ or_some (parts l.coding l.docs q) (edits l.changes) false)
    × ((q : Entry) → or_some (gains l.coding l.docs q) (edits (drop l.change-index l.changes)) (is_in q l.delta.gained.items) ≡ or_some (gains l.coding l.docs q) (edits l.changes) false)
