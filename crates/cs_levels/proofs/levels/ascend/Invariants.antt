use Rattle.std.proofs.Common.{◌≡◌, length}
use Rattle.cs_parts.specs.Parts.{got}
use Rattle.cs_levels.specs.Levels.{levels_waiting, SameValue}
use Rattle.cs_levels.proofs.levels.ascend.Given as goal

abbrev pub invariant-loop-level : goal.invariant-loop-level
invariant-loop-level l = record {
  value : SameValue l.initial.levels.items (λ r. got l.fn.value) l.levels.items (λ r. got l.here);
  order : levels_waiting l.levels.items ≡ levels_waiting l.initial.levels.items;
}

abbrev pub decreases-loop-level : goal.decreases-loop-level
decreases-loop-level l = length l.levels.items
