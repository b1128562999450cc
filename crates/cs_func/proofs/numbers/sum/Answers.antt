use Rattle.cs_func.proofs.Trees.{of_list-List}
use Rattle.cs_func.proofs.numbers.sum.Goals as goal

pub returns-in-List : goal.returns-in-List
returns-in-List c = rw (c.in-List.is, of_list-List) c.sum_of.ensures
