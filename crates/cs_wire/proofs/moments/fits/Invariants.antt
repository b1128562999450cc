use Rattle.std.proofs.Common.{◌≡◌, length}
use Rattle.cs_wire.specs.Moments.{fits}
use Rattle.cs_wire.proofs.moments.fits.Given as goal

abbrev pub invariant-loop-wanted : goal.invariant-loop-wanted
invariant-loop-wanted l =
    (fits l.pattern l.bytes ≡ fits l.wanted-iterator.a.rest.now l.wanted-iterator.b.rest.now)
    × (length l.wanted-iterator.a.rest.now ≡ length l.wanted-iterator.b.rest.now)
