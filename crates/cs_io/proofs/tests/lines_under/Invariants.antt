use Rattle.std.proofs.Common.{◌≡◌, true}
use Rattle.cs_io.specs.Names.{is_open}
use Rattle.cs_io.specs.Reader.{InStep}
use Rattle.cs_io.proofs.tests.lines_under.Given as goal

abbrev pub invariant-loop-before : goal.invariant-loop-before
invariant-loop-before g l = record {
  opened : is_open (g.Lb.Library.asked l.library) l.which ≡ true;
  which : l.lines.which ≡ l.which;
  in_step : InStep l.lines (g.Lb.Library.left l.library l.which);
}
