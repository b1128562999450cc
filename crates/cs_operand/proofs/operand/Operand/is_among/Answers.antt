use Rattle.std.proofs.Common.{ap, Some, Bool}
use Rattle.cs_value.specs.Tree.{boolean}
use Rattle.cs_value.specs.View.{list_tree}
use Rattle.cs_operand.specs.Operands.{operand}
use Rattle.cs_operand.proofs.Items.{within_items, truth_within_items}
use Rattle.cs_operand.proofs.operand.Operand.is_among.Goals as goal

pub returns-in-List-clause-value : goal.returns-in-List-clause-value
returns-in-List-clause-value c =
    rw (c.in-List.is, within_items (operand c.args.self) (list_tree c.in-List.items.now.items))
    (ap boolean c.has_equal.ensures)

pub returns-in-List-clause-truth : goal.returns-in-List-clause-truth
returns-in-List-clause-truth c =
    rw (c.in-List.is, truth_within_items (operand c.args.self) (list_tree c.in-List.items.now.items))
    (ap (λ (b : Bool). Some b) c.has_equal.ensures)
