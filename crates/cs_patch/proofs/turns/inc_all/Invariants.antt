use Rattle.std.proofs.Common.{◌≡◌, drop, map}
use Rattle.cs_value.specs.View.{tree}
use Rattle.cs_patch.specs.Operations.{inc_path}
use Rattle.cs_patch.specs.Patched.{in_turn}
use Rattle.cs_patch.specs.Entries.{number_at}
use Rattle.cs_patch.proofs.turns.inc_all.Given as goal

abbrev pub invariant-loop-entry : goal.invariant-loop-entry
invariant-loop-entry l =
    in_turn inc_path (map number_at (drop l.entry-index l.entries)) (tree l.val)
    ≡ in_turn inc_path (map number_at l.entries) (tree l.fn.val)
