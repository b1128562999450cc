-- What the code keeps of each path of a patch, as the definitions see it. For private clauses.
use Rattle.std.specs.Prelude.{ℕ, ℤ, List}
use Rattle.cs_value.specs.Tree.{Tree}
use Rattle.cs_value.specs.View.{tree, list_tree}
use Rattle.cs_alter.specs.Alterations.{side}
use Rattle.cs_patch.specs.Operations.{Insertion}
use Rattle.cs_patch.specs.declared.entries.ValueAt.{ValueAt}
use Rattle.cs_patch.specs.declared.entries.NumberAt.{NumberAt}
use Rattle.cs_patch.specs.declared.entries.RemovalAt.{RemovalAt}
use Rattle.cs_patch.specs.declared.entries.InsertAt.{InsertAt}

abbrev pub value_at : ValueAt → List ℕ × Tree
value_at e = (e.text.now, tree e.new.now)

abbrev pub removal_at : RemovalAt → List ℕ
removal_at e = e.text.now

abbrev pub number_at : NumberAt → List ℕ × ℤ
number_at e = (e.text.now, e.number)

abbrev pub insertion_at : InsertAt → Insertion
insertion_at e =
    record { side = side e.side; path = e.text.now; items = list_tree e.items.now.items }
