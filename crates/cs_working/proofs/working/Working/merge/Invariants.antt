use Rattle.std.proofs.Common.{◌≡◌, ◌++◌, drop}
use Rattle.cs_shelf.specs.View.{doc_at as put_at}
use Rattle.cs_working.specs.Merged.{ArePlaces, merged}
use Rattle.cs_working.proofs.working.Working.merge.Given as goal

abbrev pub invariant-loop-place : goal.invariant-loop-place
invariant-loop-place l =
    record {
      put : ArePlaces (put_at l.self.put) l.left;
      so_far : l.places.items ++ merged l.self (drop l.place-index l.standing) l.left ≡ merged l.self l.standing l.put;
    }
