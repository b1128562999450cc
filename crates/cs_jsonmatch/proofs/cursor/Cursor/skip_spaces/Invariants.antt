use Rattle.std.proofs.Common.{◌≡◌, ◌≤◌, length, Some}
use Rattle.cs_jsonmatch.specs.Reading.{reading}
use Rattle.cs_jsonmatch.specs.Machine.{State, taken}
use Rattle.cs_jsonmatch.proofs.cursor.Cursor.skip_spaces.Given as goal

abbrev pub invariant-loop : goal.invariant-loop
invariant-loop l = record {
  reads : (s : State) → taken s 32 ≡ Some s → reading l.fn.self.rest.now s ≡ reading l.self.rest.now s;
  shorter : length l.self.rest.now ≤ length l.fn.self.rest.now;
}

abbrev pub decreases-loop : goal.decreases-loop
decreases-loop l = length l.self.rest.now
