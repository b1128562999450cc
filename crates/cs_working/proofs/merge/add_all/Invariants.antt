use Rattle.std.proofs.Common.{◌≡◌, ◌++◌, map, drop}
use Rattle.cs_working.specs.Merged.{behind}
use Rattle.cs_working.proofs.merge.add_all.Given as goal

abbrev pub invariant-loop-place : goal.invariant-loop-place
invariant-loop-place l = l.places.items ++ map behind (drop l.place-index l.put) ≡ l.fn.places.items ++ map behind l.put
