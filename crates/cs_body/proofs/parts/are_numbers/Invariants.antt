use Rattle.std.proofs.Common.{◌≡◌}
use Rattle.cs_value.specs.View.{fields, entries_tree}
use Rattle.cs_patch.specs.View.{are_numbers}
use Rattle.cs_body.proofs.parts.are_numbers.Given as goal

abbrev pub invariant-loop-val : goal.invariant-loop-val
invariant-loop-val l = are_numbers (fields l.values) ≡ are_numbers (entries_tree l.val-iterator)
