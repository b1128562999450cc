use Rattle.std.proofs.Common.{◌≡◌, ◌++◌, drop, not, filter}
use Rattle.cs_value.specs.View.{list_tree}
use Rattle.cs_value.specs.Words.{is_null}
use Rattle.cs_func.proofs.lists.without_nulls.Given as goal

abbrev pub invariant-loop-item : goal.invariant-loop-item
invariant-loop-item l = list_tree l.kept.items ++ filter (λ t. not (is_null t)) (list_tree (drop l.item-index l.item-items)) ≡ filter (λ t. not (is_null t)) (list_tree l.item-items)
