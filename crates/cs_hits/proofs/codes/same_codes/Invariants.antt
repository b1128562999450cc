use Rattle.std.proofs.Common.{◌≡◌, map, take}
use Rattle.cs_interest.specs.Interest.{interest_code}
use Rattle.cs_hits.proofs.codes.same_codes.Given as goal

abbrev pub invariant-loop-place : goal.invariant-loop-place
invariant-loop-place l =
    map (interest_code l.seed) (take l.place l.one) ≡ map (interest_code l.seed) (take l.place l.other)
