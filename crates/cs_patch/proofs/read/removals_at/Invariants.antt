use Rattle.std.proofs.Common.{◌≡◌, ◌++◌, drop, map}
use Rattle.cs_patch.specs.Patched.{first_fault}
use Rattle.cs_patch.specs.Entries.{removal_at}
use Rattle.cs_patch.specs.Readings.{AreShort}
use Rattle.cs_patch.proofs.read.removals_at.Given as goal

abbrev pub invariant-loop-text : goal.invariant-loop-text
invariant-loop-text l =
    (map removal_at l.entries.items ++ drop l.text-index l.texts ≡ l.texts)
    × AreShort (drop l.text-index l.texts)
    × (first_fault l.texts ≡ first_fault (drop l.text-index l.texts))
