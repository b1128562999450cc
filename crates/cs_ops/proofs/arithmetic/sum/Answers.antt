use Rattle.std.proofs.Common.{ap, ◌∙◌}
use Rattle.cs_value.specs.Tree.{trees, list}
use Rattle.cs_value.specs.View.{list_tree}
use Rattle.cs_value.proofs.Views.{tree-List, members-trees}
use Rattle.cs_ops.proofs.arithmetic.sum.Goals as goal

pub returns-in_ok-joined_lists-in-List-List-clause-value : goal.returns-in_ok-joined_lists-in-List-List-clause-value
returns-in_ok-joined_lists-in-List-List-clause-value c =
    let a = c.in-List-List in
    rw (a.is-0, a.is-1) (tree-List c.in_ok-joined_lists-in-List-List.field-0
    ∙ rw (tree-List a.items, tree-List a.more, members-trees (list_tree a.items.items), members-trees (list_tree a.more.items)) (ap (λ ts. list (trees ts)) c.in_ok-joined_lists-in-List-List.ensures))
