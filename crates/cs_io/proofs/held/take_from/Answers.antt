use Rattle.std.proofs.Common.{arith}
use Rattle.std.proofs.lemmas.Grind.{common_steps}
use Rattle.std.proofs.lemmas.List.{length-take}
use Rattle.cs_io.proofs.Keeping.{taken_front}
use Rattle.cs_io.proofs.held.take_from.Goals as goal

pub returns-clause-bytes : goal.returns-clause-bytes
returns-clause-bytes c = taken_front c.args.slot.now.bytes.items c.copy_from_slice.new.self _ c.args.slot.now.at c.min-count.result (grind (arith, common_steps)) (omega (arith, c.copy_from_slice.ensures.len, length-take c.min-count.result c.args.piece.now, c.min-count.ensures, c.min.ensures))
