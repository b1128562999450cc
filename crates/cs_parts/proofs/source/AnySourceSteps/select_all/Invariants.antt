use Rattle.std.proofs.Common.{◌≡◌, ◌≤◌, ◌+◌, ◌++◌, map, drop, Some}
use Rattle.cs_value.specs.View.{tree}
use Rattle.cs_view.specs.Keys.{selected}
use Rattle.cs_parts.proofs.source.AnySourceSteps.select_all.Given as goal

abbrev pub invariant-loop-place : goal.invariant-loop-place
invariant-loop-place g l =
    (map Some (map (λ r. tree r.now) l.found.items) ++ map (g.V.View.doc_at l.self) (drop l.place-index l.place-items) ≡ map Some (selected l.keys (g.V.View.docs l.self)))
    × (l.count ≤ l.initial.count + l.place-index)
