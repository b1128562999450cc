use Rattle.std.proofs.Common.{◌≡◌, drop, map}
use Rattle.cs_value.specs.View.{tree}
use Rattle.cs_patch.specs.Operations.{set_missing_path}
use Rattle.cs_patch.specs.Patched.{in_turn}
use Rattle.cs_patch.specs.Entries.{value_at}
use Rattle.cs_patch.proofs.turns.set_all_missing.Given as goal

abbrev pub invariant-loop-entry : goal.invariant-loop-entry
invariant-loop-entry l =
    in_turn set_missing_path (map value_at (drop l.entry-index l.entries)) (tree l.val)
    ≡ in_turn set_missing_path (map value_at l.entries) (tree l.fn.val)
