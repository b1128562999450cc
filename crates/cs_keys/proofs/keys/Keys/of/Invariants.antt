use Rattle.std.proofs.Common.{◌≡◌, ◌++◌, [], List, map}
use Rattle.std.specs.Vec.Iter.{into_iter_items}
use Rattle.cs_view.specs.declared.key.Key.{Key}
use Rattle.cs_interest.specs.Interest.{interest_code}
use Rattle.cs_keys.specs.Keys.{SameKeys, rest_of}
use Rattle.cs_keys.proofs.keys.Keys.of.Given as goal

abbrev pub invariant-loop-key : goal.invariant-loop-key
invariant-loop-key l =
    (done : List Key) × (l.fn.looked ≡ done ++ into_iter_items l.key-iterator) × SameKeys (rest_of l.keys) done
    × (l.keys.codes.items ≡ map (interest_code l.seed) done) × (l.keys.own ≡ [])
