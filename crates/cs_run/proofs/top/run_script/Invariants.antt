use Rattle.std.proofs.Common.{◌≡◌, ◌≤◌, ◌+◌, ◌-◌, List, ℕ, Some, true, take}
use Rattle.cs_io.specs.Laws.{given_lines}
use Rattle.cs_io.specs.Lines.{feed_of, largest_source}
use Rattle.cs_io.specs.Names.{is_open}
use Rattle.cs_io.specs.Reader.{OnlyReads, InStep}
use Rattle.cs_core.specs.Core.{state, IsSound}
use Rattle.cs_machine.specs.State.{begun}
use Rattle.cs_docs.specs.Store.{docs}
use Rattle.cs_run.specs.Visits.{are_simple_lines, lines_cost}
use Rattle.cs_run.proofs.Playing.{Played}
use Rattle.cs_run.proofs.top.run_script.Given as goal

abbrev pub invariant-turns : goal.invariant-turns
invariant-turns g l = record {
  opened : is_open (g.Lb.Library.asked l.library) l.number ≡ true;
  in_step : InStep l.lines (g.Lb.Library.left l.library l.number);
  sound : IsSound l.core;
  which : l.lines.which ≡ l.number;
  within : l.lines.given ≤ largest_source;
  writes_later : g.K.Sink.faults l.initial.sink ≤ g.K.Sink.faults l.sink;
  costs : (script : List ℕ) → g.Lb.Library.left l.initial.library l.number ≡ Some script → are_simple_lines 1 (given_lines (feed_of script)) ≡ true → l.steps ≤ l.initial.steps + lines_cost (begun (docs l.fn.docs)) 1 (take l.lines.given (given_lines (feed_of script)));
  calls : OnlyReads g.Lb.Library.files g.Lb.Library.asked g.Lb.Library.open_faults g.Lb.Library.read_faults l.initial.library l.library;
  played : (script : List ℕ) → g.Lb.Library.left l.initial.library l.number ≡ Some script → Played (begun (docs l.fn.docs)) script (g.K.Sink.taken l.initial.sink) (g.K.Sink.taken l.sink) (state l.core) l.lines (g.Lb.Library.left l.library l.number);
}

abbrev pub decreases-turns : goal.decreases-turns
decreases-turns g l = largest_source - l.lines.given
