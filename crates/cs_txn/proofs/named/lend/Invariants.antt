use Rattle.std.proofs.Common.{◌≡◌, map, take}
use Rattle.cs_value.specs.View.{tree, list_tree}
use Rattle.cs_txn.proofs.named.lend.Given as goal

abbrev pub invariant-loop-val : goal.invariant-loop-val
invariant-loop-val l =
    map (λ v. tree v.now) l.lent.items ≡ list_tree (take l.val-index l.vals)
