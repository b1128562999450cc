use Rattle.std.proofs.Common.{◌≡◌, ◌++◌, map}
use Rattle.cs_value.specs.Tree.{attributes}
use Rattle.cs_value.specs.View.{fields, entries_tree}
use Rattle.cs_patch.specs.Patched.{first_fault}
use Rattle.cs_patch.specs.Entries.{value_at}
use Rattle.cs_patch.specs.Readings.{AreShort, names_of}
use Rattle.cs_patch.proofs.read.values_at.Given as goal

-- What was read and what is left are all; what is left is short; and the first fault of all is
-- that of what is left.
abbrev pub invariant-loop-text : goal.invariant-loop-text
invariant-loop-text l =
    (map value_at l.entries.items ++ attributes (entries_tree l.text-iterator)
    ≡ attributes (fields l.values))
    × AreShort (names_of (attributes (entries_tree l.text-iterator)))
    × (first_fault (names_of (attributes (fields l.values)))
    ≡ first_fault (names_of (attributes (entries_tree l.text-iterator))))
