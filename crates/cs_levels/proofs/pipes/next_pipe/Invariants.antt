use Rattle.std.proofs.Common.{◌≡◌, map, length}
use Rattle.cs_syntax.specs.View.{step_of}
use Rattle.cs_parts.specs.Kinds.{kinds_of}
use Rattle.cs_levels.specs.Nodes.{first_pipe, steps_in}
use Rattle.cs_levels.proofs.pipes.next_pipe.Given as goal

abbrev pub invariant-loop-first : goal.invariant-loop-first
invariant-loop-first l = record {
  same : first_pipe (steps_in l.left) ≡ first_pipe (steps_in l.fn.rest);
  kinds : l.left.kinds.now ≡ kinds_of (map step_of l.left.steps.now);
}

abbrev pub decreases-loop-first : goal.decreases-loop-first
decreases-loop-first l = length l.left.steps.now
