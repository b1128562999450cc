use Rattle.std.proofs.Common.{◌∙◌, sym}
use Rattle.cs_view.proofs.Looking.{element_of_list}
use Rattle.cs_view.proofs.lookup.has_element.Goals as goal

pub returns-in-List : goal.returns-in-List
returns-in-List c = rw c.in-List.is (c.some_equals.ensures ∙ sym (element_of_list _ _))
