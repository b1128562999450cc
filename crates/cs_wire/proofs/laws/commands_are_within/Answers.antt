use Rattle.cs_wire.proofs.Lengths.{command_within}
use Rattle.cs_wire.proofs.laws.commands_are_within.Goals as goal

pub returns : goal.returns
returns c = command_within
