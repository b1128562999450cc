use Rattle.std.proofs.Common.{◌-◌, ◌≡◌, ◌≤◌, ℕ, true, List, Some}
use Rattle.cs_io.specs.Lines.{largest_source}
use Rattle.cs_io.specs.Names.{is_open}
use Rattle.cs_io.specs.Reader.{OnlyReads, InStep}
use Rattle.cs_load.specs.Taking.{so_far}
use Rattle.cs_load.proofs.DataReading.{Reads}
use Rattle.cs_load.proofs.data_file.read_lines.Given as goal

abbrev pub invariant-loop-lines : goal.invariant-loop-lines
invariant-loop-lines g l = record {
  opened : is_open (g.Lb.Library.asked l.library) l.which ≡ true;
  in_step : InStep l.lines (g.Lb.Library.left l.library l.which);
  which : l.lines.which ≡ l.which;
  within : l.lines.given ≤ largest_source;
  calls : OnlyReads g.Lb.Library.files g.Lb.Library.asked g.Lb.Library.open_faults g.Lb.Library.read_faults l.initial.library l.library;
  reads : (bytes : List ℕ) → g.Lb.Library.left l.initial.library l.which ≡ Some bytes → Reads bytes (so_far l.loading) l.lines (g.Lb.Library.left l.library l.which);
}

abbrev pub decreases-loop-lines : goal.decreases-loop-lines
decreases-loop-lines g l = largest_source - l.lines.given
