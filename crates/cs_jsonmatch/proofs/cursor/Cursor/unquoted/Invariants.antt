use Rattle.std.proofs.Common.{◌≡◌, ◌≤◌, [], List, Bool, length, string_bytes}
use Rattle.cs_jsonmatch.specs.Path.{Item, Path}
use Rattle.cs_jsonmatch.specs.Machine.{Slot, quoted}
use Rattle.cs_jsonmatch.specs.Reading.{reading}
use Rattle.cs_jsonmatch.proofs.cursor.Cursor.unquoted.Given as goal

abbrev pub invariant-loop-c : goal.invariant-loop-c
invariant-loop-c l = record {
  text : (p : Path) (d : Bool) (is : List Item) (g : Slot) → reading l.fn.self.rest.now (quoted p d is g l.fn.quote []) ≡ reading l.self.rest.now (quoted p d is g l.fn.quote (string_bytes l.text));
  quote : l.quote ≡ l.fn.quote;
  shorter : length l.self.rest.now ≤ length l.fn.self.rest.now;
}

abbrev pub decreases-loop-c : goal.decreases-loop-c
decreases-loop-c l = length l.self.rest.now
