use Rattle.cs_grammar.proofs.Agreement.{one_expression}
use Rattle.cs_grammar.proofs.laws.one_expression.Goals as goal

pub returns : goal.returns
returns c = one_expression
