use Rattle.std.proofs.Common.{◌≡◌, true}
use Rattle.cs_io.specs.Names.{is_open}
use Rattle.cs_io.proofs.tests.read_on.Given as goal

abbrev pub invariant-loop-reads : goal.invariant-loop-reads
invariant-loop-reads g l = is_open (g.Lb.Library.asked l.library) l.which ≡ true
