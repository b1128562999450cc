use Rattle.std.proofs.Common.{◌≡◌, map, take}
use Rattle.cs_view.specs.View.{edits}
use Rattle.cs_reply.specs.View.{outcome as outcome_seen}
use Rattle.cs_machine.specs.Rows.{outcome}
use Rattle.cs_state.proofs.transact.outcomes.Given as goal

abbrev pub invariant-loop-change : goal.invariant-loop-change
invariant-loop-change l =
    map outcome_seen l.outcomes.items ≡ map outcome (edits (take l.change-index l.changes))
