use Rattle.std.proofs.Common.{ap, ◌∙◌}
use Rattle.cs_value.specs.Tree.{boolean}
use Rattle.cs_value.specs.View.{list_tree}
use Rattle.cs_value.proofs.Views.{tree-List, members-trees}
use Rattle.cs_ops.proofs.Trees.{tree-Bool}
use Rattle.cs_ops.proofs.operators.within.Goals as goal

pub returns-in-List : goal.returns-in-List
returns-in-List c = rw (c.in-List.is, tree-List c.in-List.items, members-trees (list_tree c.in-List.items.items)) (tree-Bool c.has_equal.result ∙ ap boolean c.has_equal.ensures)
