use Rattle.std.proofs.Common.{◌≡◌, ◌++◌, map, drop}
use Rattle.cs_interest.specs.Interest.{interest_code}
use Rattle.cs_hits.specs.Shares.{shares_looked}
use Rattle.cs_hits.proofs.shares.listed_codes.Given as goal

abbrev pub invariant-loop-share : goal.invariant-loop-share
invariant-loop-share l =
    l.codes.items ++ map (interest_code l.seed) (shares_looked (drop l.share-index l.shares))
    ≡ map (interest_code l.seed) (shares_looked l.shares)
