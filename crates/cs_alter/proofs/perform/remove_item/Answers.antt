use Rattle.std.proofs.Common.{◌≤◌, ◌<◌, length, ◌∙◌, ap, arith}
use Rattle.cs_value.specs.Tree.{trees}
use Rattle.cs_value.specs.View.{list_tree}
use Rattle.cs_alter.proofs.Items.{drop_item-remove, drop_item-none}
use Rattle.cs_alter.proofs.perform.remove_item.Goals as goal

pub returns-then-index-len : goal.returns-then-index-len
returns-then-index-len c =
    let here : c.args.index < length c.args.items.now.items = omega arith in
    ap (λ xs. trees (list_tree xs)) c.remove.ensures.items ∙ drop_item-remove c.args.items.now.items c.args.index here

pub returns-else-index-len : goal.returns-else-index-len
returns-else-index-len c =
    let past : length c.args.items.now.items ≤ c.args.index = omega arith in
    drop_item-none c.args.items.now.items c.args.index past
