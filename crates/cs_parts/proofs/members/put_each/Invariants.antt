use Rattle.std.proofs.Common.{◌≡◌, ◌++◌, List}
use Rattle.cs_value.specs.View.{fields, entries_tree}
use Rattle.cs_value.specs.declared.val.Fields.{out-Fields}
use Rattle.cs_value.proofs.Views.{Entry}
use Rattle.cs_ops.specs.Arithmetic.{merged}
use Rattle.cs_parts.proofs.members.put_each.Given as goal

abbrev pub invariant-loop-key : goal.invariant-loop-key
invariant-loop-key l =
    (done : List Entry)
    × ((out-Fields l.more).pairs ≡ done ++ l.key-iterator)
    × (fields l.pairs ≡ merged (fields l.initial.pairs) (entries_tree done))
