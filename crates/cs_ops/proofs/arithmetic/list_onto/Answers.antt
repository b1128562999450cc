use Rattle.std.proofs.Common.{ap, ◌∙◌}
use Rattle.cs_value.specs.Tree.{trees, list}
use Rattle.cs_value.specs.View.{list_tree}
use Rattle.cs_value.proofs.Views.{tree-List, members-trees}
use Rattle.cs_ops.proofs.arithmetic.list_onto.Goals as goal

pub returns-in-List-clause-value : goal.returns-in-List-clause-value
returns-in-List-clause-value c =
    let a = c.in-List in
    let made = c.in_ok-longer_list-in-List in
    let more = list_tree c.args.more.now.items in
    rw a.is (tree-List made.field-0
    ∙ rw (tree-List a.items, members-trees (list_tree a.items.items), members-trees more) (ap (λ ts. list (trees ts)) made.ensures))
