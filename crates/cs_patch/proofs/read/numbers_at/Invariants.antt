use Rattle.std.proofs.Common.{◌≡◌, ◌++◌, map}
use Rattle.cs_value.specs.View.{fields, entries_tree}
use Rattle.cs_patch.specs.Patched.{first_fault}
use Rattle.cs_patch.specs.View.{numbers}
use Rattle.cs_patch.specs.Entries.{number_at}
use Rattle.cs_patch.specs.Readings.{AreShort, names_of}
use Rattle.cs_patch.proofs.read.numbers_at.Given as goal

abbrev pub invariant-loop-text : goal.invariant-loop-text
invariant-loop-text l =
    (map number_at l.entries.items ++ numbers (entries_tree l.text-iterator)
    ≡ numbers (fields l.values))
    × AreShort (names_of (numbers (entries_tree l.text-iterator)))
    × (first_fault (names_of (numbers (fields l.values)))
    ≡ first_fault (names_of (numbers (entries_tree l.text-iterator))))
