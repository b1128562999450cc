use Rattle.cs_value.proofs.Views.{tree-List}
use Rattle.cs_alter.proofs.Items.{got}
use Rattle.cs_alter.proofs.lookup.step_into.Goals as goal

pub returns-in-List : goal.returns-in-List
returns-in-List c =
    rw (c.in-Pos.is, c.in-List.is, tree-List c.in-List.items)
    (got c.get.result c.deref.result.now c.in-List.items.items c.in-Pos.index c.deref.ensures.value c.get.ensures.lookup.0 c.get.ensures.lookup.1)
