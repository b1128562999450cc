use Rattle.std.proofs.Common.{◌≡◌, ◌++◌, map, length}
use Rattle.cs_shelf.specs.View.{doc_at as put_at}
use Rattle.cs_working.specs.Merged.{ArePlaces, behind, lower, upper}
use Rattle.cs_working.proofs.merge.add_lower.Given as goal

abbrev pub invariant-loop-place : goal.invariant-loop-place
invariant-loop-place l =
    record {
      put : ArePlaces (put_at l.shelf) l.left;
      added : l.places.items ++ map behind (lower (put_at l.shelf) l.id l.left) ≡ l.fn.places.items ++ map behind (lower (put_at l.shelf) l.id l.put);
      left : upper (put_at l.shelf) l.id l.left ≡ upper (put_at l.shelf) l.id l.put;
    }

abbrev pub decreases-loop-place : goal.decreases-loop-place
decreases-loop-place l = length l.left
