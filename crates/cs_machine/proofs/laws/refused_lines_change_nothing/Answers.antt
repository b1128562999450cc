use Rattle.cs_machine.proofs.Unchanged.{refused-unchanged}
use Rattle.cs_machine.proofs.laws.refused_lines_change_nothing.Goals as goal

pub returns : goal.returns
returns c = refused-unchanged
