use Rattle.std.proofs.Common.{ap, ◌∙◌}
use Rattle.cs_value.specs.Tree.{list, trees}
use Rattle.cs_value.proofs.Views.{tree-List}
use Rattle.cs_func.proofs.Trees.{of_list-List}
use Rattle.cs_func.proofs.lists.unique.Goals as goal

pub returns-in_ok-distinct-in-List : goal.returns-in_ok-distinct-in-List
returns-in_ok-distinct-in-List c = rw (c.in-List.is, of_list-List) (tree-List _ ∙ ap (λ ts. list (trees ts)) c.in_ok-distinct-in-List.ensures)
