use Rattle.std.proofs.Common.{◌≡◌, length, reverse, []}
use Rattle.cs_jsonmatch.specs.View.{path_of}
use Rattle.cs_targets.specs.Targets.{cut}
use Rattle.cs_targets.proofs.run.take_run.Given as goal

abbrev pub invariant-loop-name : goal.invariant-loop-name
invariant-loop-name l = cut [] (reverse (path_of l.fn.steps.items)) ≡ cut (reverse l.names.items) (reverse (path_of l.steps.items))

abbrev pub decreases-loop-name : goal.decreases-loop-name
decreases-loop-name l = length l.steps.items
