use Rattle.std.proofs.Common.{◌≡◌, ◌≤◌, ◌++◌, ℕ, List, length}
use Rattle.cs_jsonmatch.specs.Grammar.{number_from}
use Rattle.cs_jsonmatch.proofs.Readings.{DigitsSoFar}
use Rattle.cs_jsonmatch.proofs.cursor.Cursor.digits.Given as goal

abbrev pub invariant-loop-count : goal.invariant-loop-count
invariant-loop-count l = record {
  digits : (w : List ℕ) × (l.fn.self.rest.now ≡ w ++ l.self.rest.now) × DigitsSoFar w × (number_from 0 w ≡ l.number) × (length w ≡ l.count);
  shorter : length l.self.rest.now ≤ length l.fn.self.rest.now;
}
