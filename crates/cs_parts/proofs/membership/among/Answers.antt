use Rattle.std.proofs.Common.{map, sym, ap, ◌∙◌}
use Rattle.std.specs.List.{list_any}
use Rattle.cs_value.specs.Tree.{boolean}
use Rattle.cs_value.specs.View.{tree}
use Rattle.cs_ops.specs.Equal.{equal}
use Rattle.cs_ops.specs.Operators.{within}
use Rattle.cs_parts.specs.Parts.{got}
use Rattle.cs_parts.proofs.Trees.{tree_of_bool, within_parts}
use Rattle.cs_parts.proofs.membership.among.Goals as goal

pub returns-in-Parts : goal.returns-in-Parts
returns-in-Parts c =
    let v = tree c.args.left.now in
    tree_of_bool c.has_equal.result ∙ (ap boolean (c.has_equal.ensures ∙ ap (λ rs. list_any (λ t. equal t v) (map (λ r. tree r.now) rs)) c.deref.ensures.value)
    ∙ (sym (within_parts v (map (λ r. tree r.now) c.in-Parts.parts.items)) ∙ ap (λ g. within v (got g)) (sym c.in-Parts.is)))
