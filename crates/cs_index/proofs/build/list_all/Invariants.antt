use Rattle.std.proofs.Common.{◌≡◌, List, map, Some, false}
use Rattle.std.specs.Vec.Iter.{into_iter_items}
use Rattle.cs_value.specs.Tree.{Tree}
use Rattle.cs_docs.specs.Store.{docs, doc_at}
use Rattle.cs_index.specs.Entries.{or_some, puts}
use Rattle.cs_index.specs.Spreading.{is_spread}
use Rattle.cs_docs.specs.Gathered.{entering}
use Rattle.cs_index.specs.declared.entry.Entry.{Entry}
use Rattle.cs_index.proofs.build.list_all.Given as goal

abbrev pub invariant-loop-place : goal.invariant-loop-place
invariant-loop-place l =
    (rest : List Tree)
    × (map (doc_at l.docs) (into_iter_items l.place-iterator) ≡ map Some rest)
    × ((q : Entry) → or_some (puts l.coding l.docs q) (entering rest) (is_spread q l.spread) ≡ or_some (puts l.coding l.docs q) (entering (docs l.docs)) false)
