use Rattle.std.proofs.Common.{◌≡◌, ◌≤◌, ℕ, List, length, drop, map}
use Rattle.cs_value.specs.View.{tree}
use Rattle.cs_alter.specs.Within.{removed}
use Rattle.cs_targets.specs.Seen.{seen, each_seen}
use Rattle.cs_patch.proofs.all.remove_each.Given as goal

abbrev pub invariant-loop-left : goal.invariant-loop-left
invariant-loop-left l =
    (l.left ≤ length l.targets.items) × ((ns : List (List ℕ)) → tree l.val ≡ each_seen (λ x. removed x.place) (map (λ t. seen ns t.now) (drop l.left l.targets.items)) (tree l.fn.val))

abbrev pub decreases-loop-left : goal.decreases-loop-left
decreases-loop-left l = l.left
