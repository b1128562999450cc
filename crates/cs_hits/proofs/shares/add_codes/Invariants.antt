use Rattle.std.proofs.Common.{◌≡◌, ◌++◌, map, take}
use Rattle.cs_interest.specs.Interest.{interest_code}
use Rattle.cs_hits.proofs.shares.add_codes.Given as goal

abbrev pub invariant-loop-key : goal.invariant-loop-key
invariant-loop-key l = l.codes.items ≡ l.fn.codes.items ++ map (interest_code l.seed) (take l.key-index l.keys)
