use Rattle.std.proofs.Common.{◌≡◌, drop}
use Rattle.std.specs.Prelude.{fold}
use Rattle.cs_interest.specs.Narrow.{narrower, narrowest}
use Rattle.cs_interest.proofs.narrow.narrowest_code.Given as goal

abbrev pub invariant-loop-key : goal.invariant-loop-key
invariant-loop-key l = fold narrower l.narrowest (drop l.key-index l.keys) ≡ narrowest l.keys
