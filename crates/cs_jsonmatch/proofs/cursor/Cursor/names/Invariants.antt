use Rattle.std.proofs.Common.{◌≡◌, ◌≤◌, List, Bool, length}
use Rattle.cs_jsonmatch.specs.Path.{Item, Path}
use Rattle.cs_jsonmatch.specs.Machine.{before}
use Rattle.cs_jsonmatch.specs.Reading.{reading, after_name}
use Rattle.cs_jsonmatch.proofs.cursor.Cursor.names.Given as goal

abbrev pub invariant-loop-alloc : goal.invariant-loop-alloc
invariant-loop-alloc l = record {
  names : (p : Path) (d : Bool) (is : List Item) → reading l.fn.self.rest.now (before p d is) ≡ after_name l.self.rest.now p d is l.names.items;
  shorter : length l.self.rest.now ≤ length l.fn.self.rest.now;
}

abbrev pub decreases-loop-alloc : goal.decreases-loop-alloc
decreases-loop-alloc l = length l.self.rest.now
