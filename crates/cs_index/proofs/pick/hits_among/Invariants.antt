use Rattle.std.proofs.Common.{◌≡◌, ℕ, List, ◌||◌, drop}
use Rattle.cs_index.specs.Picking.{is_hit, is_found_among, AreWanted}
use Rattle.cs_index.proofs.pick.hits_among.Given as goal

abbrev pub invariant-loop-place : goal.invariant-loop-place
invariant-loop-place l =
    AreWanted l.docs l.keys l.hits.items
    × ((y : List ℕ) → (is_found_among l.docs l.keys (drop l.place-index l.places) y || is_hit y l.hits.items) ≡ is_found_among l.docs l.keys l.places y)
