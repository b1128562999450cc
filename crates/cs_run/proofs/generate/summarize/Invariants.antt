use Rattle.std.proofs.Common.{◌≡◌, ◌≤◌, ◌-◌, [], take, length}
use Rattle.cs_core.specs.Core.{state, IsSound}
use Rattle.cs_gen.specs.Generated.{generated}
use Rattle.cs_gen.specs.Tally.{IsTally}
use Rattle.cs_machine.specs.Machine.{state_after}
use Rattle.cs_machine.specs.State.{begun}
use Rattle.cs_run.proofs.Folding.{counted_replies}
use Rattle.cs_run.proofs.generate.summarize.Given as goal

abbrev pub invariant-lines : goal.invariant-lines
invariant-lines g l = record {
  within : l.number ≤ length (generated l.fn.documents);
  same : l.documents ≡ l.fn.documents;
  sound : IsSound l.core;
  state_is : state l.core ≡ state_after (begun []) 1 (take l.number (generated l.fn.documents));
  tallied : IsTally l.tally (counted_replies (begun []) 1 (take l.number (generated l.fn.documents)));
}

abbrev pub decreases-lines : goal.decreases-lines
decreases-lines g l = length (generated l.fn.documents) - l.number
