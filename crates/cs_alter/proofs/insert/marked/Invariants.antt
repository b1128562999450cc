use Rattle.std.proofs.Common.{◌≡◌, ◌<◌, ℕ, ◌||◌, false, length, get_or, drop, nat_eq}
use Rattle.std.specs.List.{list_any}
use Rattle.cs_alter.proofs.insert.marked.Given as goal

abbrev pub invariant-loop-position : goal.invariant-loop-position
invariant-loop-position l =
    (length l.marks.items ≡ l.count)
    × ((k : ℕ) → k < l.count
    → (get_or l.marks.items k false || list_any (nat_eq k) (drop l.position-index l.positions)) ≡ list_any (nat_eq k) l.positions)
