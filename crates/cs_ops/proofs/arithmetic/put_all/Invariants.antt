use Rattle.std.proofs.Common.{◌≡◌, ◌++◌, List}
use Rattle.cs_value.specs.Tree.{Pairs, object}
use Rattle.cs_value.specs.View.{tree, fields, entries_tree}
use Rattle.cs_value.specs.declared.val.Fields.{out-Fields}
use Rattle.cs_value.proofs.Views.{Entry}
use Rattle.cs_ops.specs.Arithmetic.{merged}
use Rattle.cs_ops.proofs.arithmetic.put_all.Given as goal

abbrev pub invariant-loop-key : goal.invariant-loop-key
invariant-loop-key l =
    (done : List Entry)
    × ((out-Fields l.right).pairs ≡ done ++ l.key-iterator)
    × ((ps : Pairs) → tree l.fn.left ≡ object ps → fields l.object ≡ merged ps (entries_tree done))
