use Rattle.std.proofs.Common.{length}
use Rattle.cs_alter.proofs.give.+give.Given as goal

abbrev pub decreases-give : goal.decreases-give
decreases-give l = length l.names.now
