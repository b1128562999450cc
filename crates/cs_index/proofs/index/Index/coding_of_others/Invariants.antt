use Rattle.std.proofs.Common.{◌≡◌, IfSome}
use Rattle.cs_index.proofs.index.Index.coding_of_others.Given as goal

abbrev pub invariant-loop-kind : goal.invariant-loop-kind
invariant-loop-kind l =
    (goal.iterator-loop-kind).can_next l.kind-iterator
    × (goal.iterator-loop-kind).is_finite l.kind-iterator
    × IfSome l.others (λ others. others.seed ≡ l.self.coding.seed)
