use Rattle.std.proofs.Common.{◌≡◌, ◌*◌, drop, pos, neg_ℤ, ◌≤ℤ◌}
use Rattle.cs_value.specs.View.{list_tree}
use Rattle.cs_func.proofs.NumberLists.{summed}
use Rattle.cs_func.proofs.numbers.sum_of.Given as goal

abbrev pub invariant-loop-item : goal.invariant-loop-item
invariant-loop-item l = record {
  rest : summed l.total (list_tree (drop l.item-index l.item-items)) ≡ summed (pos 0) (list_tree l.item-items);
  above : neg_ℤ (pos (9223372036854775808 * l.item-index)) ≤ℤ l.total;
  below : l.total ≤ℤ pos (9223372036854775808 * l.item-index);
}
