use Rattle.std.proofs.Common.{◌≡◌, ◌++◌, drop, map}
use Rattle.cs_syntax.specs.Expression.{steps_of}
use Rattle.cs_syntax.specs.View.{step_of}
use Rattle.cs_parts.specs.Parts.{got}
use Rattle.cs_trail.specs.Trail.{trailed, trail_looked}
use Rattle.cs_trail.proofs.trail.follow.Given as goal

abbrev pub invariant-loop-step : goal.invariant-loop-step
invariant-loop-step g l = record {
  value : trailed (g.S.Source.docs l.source) (steps_of (map step_of l.steps)) (got l.fn.value)
      ≡ trailed (g.S.Source.docs l.source) (steps_of (map step_of (drop l.step-index l.steps)))
      (got l.here);
  keys : l.fn.keys ++ trail_looked (g.S.Source.docs l.source) (steps_of (map step_of l.steps))
      (got l.fn.value)
      ≡ l.keys ++ trail_looked (g.S.Source.docs l.source)
      (steps_of (map step_of (drop l.step-index l.steps))) (got l.here);
}
