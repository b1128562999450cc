use Rattle.std.proofs.Common.{◌≡◌, ◌||◌, drop}
use Rattle.std.specs.List.{list_any}
use Rattle.cs_jsonmatch.specs.Places.{Location}
use Rattle.cs_targets.specs.Held.{is_held, same_location}
use Rattle.cs_targets.proofs.outer.locations.Given as goal

abbrev pub invariant-loop-target : goal.invariant-loop-target
invariant-loop-target l =
    (m : Location)
    → (is_held l.held m || list_any (λ t. same_location t.location.items m) (drop l.target-index l.targets))
    ≡ list_any (λ t. same_location t.location.items m) l.targets
