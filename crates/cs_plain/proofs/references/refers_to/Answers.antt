use Rattle.cs_value.specs.View.{list_tree}
use Rattle.cs_plain.proofs.Items.{targets_items}
use Rattle.cs_plain.proofs.references.refers_to.Goals as goal

pub returns-in-List : goal.returns-in-List
returns-in-List c = rw (c.in-List.is, targets_items (list_tree c.in-List.items.now.items)) c.some_text_refers.ensures
