use Rattle.std.proofs.Common.{ap, ◌∙◌, arith}
use Rattle.std.proofs.lemmas.Int.{ints}
use Rattle.cs_value.specs.View.{tree}
use Rattle.cs_func.proofs.NumberLists.{summed-null, summed-number}
use Rattle.cs_func.proofs.Trees.{tree-Num, tree-Null}
use Rattle.cs_func.proofs.numbers.sum_of.Goals as goal
use Rattle.cs_func.proofs.numbers.sum_of.Goals.{in-Null, in-Num}

pub loop-item-preserved : goal.loop-item-preserved
loop-item-preserved c =
    let l = c.loop-item in
    let xs = c.deref-item-items.result.now in
    let v = c.item-item.result in record {
      rest = elim c.match-item.branch [
        | in-Null w ↦ summed-null xs l.item-index v _ _ _ (omega arith) c.item-item.is (ap tree w.in-Null.is ∙ tree-Null) l.invariant.rest (omega (arith, ints))
        | in-Num w ↦ summed-number xs l.item-index v _ w.in-Num.n _ _ (omega arith) c.item-item.is (ap tree w.in-Num.is ∙ tree-Num w.in-Num.n) l.invariant.rest (omega (arith, ints))
      ];
      above = elim c.match-item.branch [ in-Null w ↦ omega (arith, ints) | in-Num w ↦ omega (arith, ints) ];
      below = elim c.match-item.branch [ in-Null w ↦ omega (arith, ints) | in-Num w ↦ omega (arith, ints) ];
    }
