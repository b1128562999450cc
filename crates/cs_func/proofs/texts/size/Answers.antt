use Rattle.std.proofs.Common.{ap, sym, ◌∙◌}
use Rattle.cs_value.proofs.Views.{tree-List}
use Rattle.cs_func.specs.Lists.{count}
use Rattle.cs_func.specs.Texts.{size}
use Rattle.cs_func.proofs.texts.size.Goals as goal

pub returns-in-List : goal.returns-in-List
returns-in-List c = c.count.ensures ∙ rw c.in-List.is (ap count (tree-List _) ∙ sym (ap size (tree-List _)))
