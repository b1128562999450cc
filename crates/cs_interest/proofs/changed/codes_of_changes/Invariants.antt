use Rattle.std.proofs.Common.{◌≡◌, ◌++◌, drop}
use Rattle.cs_view.specs.View.{edits}
use Rattle.cs_interest.specs.Changed.{changes_codes}
use Rattle.cs_interest.proofs.changed.codes_of_changes.Given as goal

abbrev pub invariant-loop-change : goal.invariant-loop-change
invariant-loop-change l =
    l.out.items ++ changes_codes l.seed (edits (drop l.change-index l.changes))
    ≡ changes_codes l.seed (edits l.changes)
