use Rattle.std.proofs.Common.{◌≡◌, length}
use Rattle.cs_func.specs.Run.{left}
use Rattle.cs_func.specs.Segments.{after_some, segments_match}
use Rattle.cs_func.proofs.path.matches_after_some.Given as goal

abbrev pub invariant-loop-text_left : goal.invariant-loop-text_left
invariant-loop-text_left l = after_some (segments_match (left l.fn.parts)) (left l.fn.text) ≡ after_some (segments_match (left l.parts_left)) (left l.text_left)

abbrev pub decreases-loop-text_left : goal.decreases-loop-text_left
decreases-loop-text_left l = length (left l.text_left)
