use Rattle.std.proofs.Common.{◌≡◌, drop}
use Rattle.cs_wire.specs.Moments.{and_digits}
use Rattle.cs_wire.proofs.moments.number.Given as goal

abbrev pub invariant-loop-digit : goal.invariant-loop-digit
invariant-loop-digit l = and_digits 0 l.digits ≡ and_digits l.number (drop l.digit-index l.digits)
