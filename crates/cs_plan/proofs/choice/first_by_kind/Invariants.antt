use Rattle.std.proofs.Common.{◌≡◌}
use Rattle.std.specs.Prelude.{fold}
use Rattle.std.specs.Vec.Iter.{into_iter_items}
use Rattle.cs_plan.specs.Filters.{first_by_kind}
use Rattle.cs_plan.specs.Picked.{picked}
use Rattle.cs_plan.proofs.choice.first_by_kind.Given as goal

abbrev pub invariant-loop-key : goal.invariant-loop-key
invariant-loop-key l =
    fold picked l.best (into_iter_items l.key-iterator) ≡ first_by_kind l.fn.keys.items
