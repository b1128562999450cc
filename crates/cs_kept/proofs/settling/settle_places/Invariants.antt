use Rattle.std.proofs.Common.{◌≡◌, map, drop, false, true}
use Rattle.cs_value.specs.View.{tree}
use Rattle.cs_hits.specs.Shares.{SameBut, share_values}
use Rattle.cs_kept.proofs.Settled.{Differ}
use Rattle.cs_kept.proofs.settling.settle_places.Given as goal

abbrev pub invariant-loop-place : goal.invariant-loop-place
invariant-loop-place l = record {
  but : SameBut (drop l.place-index l.places) (map tree l.list.items) (share_values l.shares);
  unmoved : l.stale ≡ false → map tree l.list.items ≡ map tree l.initial.list.items;
  moved : l.stale ≡ true → Differ (share_values l.shares) (map tree l.initial.list.items);
}
