-- A reader's step from what its piece gave.
use Rattle.std.proofs.Common.{◌≡◌, refl, ℕ, List, take, drop, ◌+◌, ◌-◌, ◌≤◌, arith}
use Rattle.std.proofs.lemmas.List.{drop-take, drop-drop}
use Rattle.cs_io.specs.Lines.{largest_source}
use Rattle.cs_io.specs.Parts.{EndsLine}
use Rattle.cs_io.specs.Reader.{Reader}
use Rattle.cs_io.specs.Moves.{Ended}

-- the part from..to of a list, without its first elements
pub shorter : (xs : List ℕ) (from to used : ℕ) → used ≤ to - from → drop used (take (to - from) (drop from xs)) ≡ take (to - (from + used)) (drop (from + used) xs)
shorter xs from to used h =
    let size : to - from ≡ used + (to - (from + used)) = omega arith in
    rw (size, drop-take used (to - (from + used)) (drop from xs), drop-drop used from xs) refl

pub ended_by : (old new : Reader) (line line' : List ℕ) (used : ℕ) → new.given ≤ largest_source → new.which ≡ old.which → new.given ≡ old.given + 1 → new.taken ≡ old.taken + used → new.ended ≡ old.ended → new.ahead ≡ drop used old.ahead → EndsLine used old.ahead old.taken line line' → Ended old new line line'
ended_by old new line line' used m w g t e a ends = record {
  which = w;
  given = g;
  ended = e;
  plain = ends.plain;
  short = ends.short;
  within = m;
  text = rw a ends.text;
  feeds = λ rest. rw (g, t, a) (ends.feeds (old.given + 1) rest);
}
