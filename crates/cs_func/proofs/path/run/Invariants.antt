use Rattle.std.proofs.Common.{◌≡◌, ℕ, ◌≤◌, length, drop, true}
use Rattle.cs_func.specs.Run.{left}
use Rattle.cs_func.specs.Segments.{segments_match}
use Rattle.cs_func.proofs.path.run.Given as goal

abbrev pub invariant-loop-parts_left : goal.invariant-loop-parts_left
invariant-loop-parts_left l = record {
  same : segments_match (left l.fn.parts) (left l.fn.text) ≡ segments_match (left l.parts_left) (left l.text_left);
  further : (j : ℕ) → segments_match (left l.fn.parts) (drop j (left l.fn.text)) ≡ true → segments_match (left l.parts_left) (drop j (left l.text_left)) ≡ true;
  shorter : length (left l.text_left) ≤ length (left l.fn.text);
}

abbrev pub decreases-loop-parts_left : goal.decreases-loop-parts_left
decreases-loop-parts_left l = length (left l.parts_left)
