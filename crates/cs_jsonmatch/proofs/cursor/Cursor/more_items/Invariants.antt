use Rattle.std.proofs.Common.{◌≡◌, ◌≢◌, ◌≤◌, ◌∷◌, [], Bool, map, length}
use Rattle.cs_jsonmatch.specs.declared.class.Class.TheVariants.{Space}
use Rattle.cs_jsonmatch.specs.Path.{Path}
use Rattle.cs_jsonmatch.specs.View.{item_of}
use Rattle.cs_jsonmatch.specs.Machine.{after}
use Rattle.cs_jsonmatch.specs.Reading.{reading, next_class}
use Rattle.cs_jsonmatch.proofs.cursor.Cursor.more_items.Given as goal

abbrev pub invariant-loop-alloc : goal.invariant-loop-alloc
invariant-loop-alloc l = record {
  items : (p : Path) (d : Bool) → reading l.fn.self.rest.now (after p d (item_of l.fn.first ∷ [])) ≡ reading l.self.rest.now (after p d (map item_of l.items.items));
  next : next_class l.self.rest.now ≢ Space;
  shorter : length l.self.rest.now ≤ length l.fn.self.rest.now;
}

abbrev pub decreases-loop-alloc : goal.decreases-loop-alloc
decreases-loop-alloc l = length l.self.rest.now
