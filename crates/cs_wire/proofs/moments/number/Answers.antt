use Rattle.std.proofs.Common.{arith}
use Rattle.std.proofs.lemmas.List.{at_drop_all}
use Rattle.cs_wire.specs.Moments.{and_digits}
use Rattle.cs_wire.proofs.Digits.{digits_below, next_below}
use Rattle.cs_wire.proofs.moments.number.Goals as goal

pub overflow_mul-number : goal.overflow_mul-number
overflow_mul-number c =
    omega (arith, next_below c.loop-digit.number c.loop-digit.digit-index c.args.digits.now c.requires.digits c.requires.few (omega arith) c.loop-digit.invariant)

pub overflow_add-number : goal.overflow_add-number
overflow_add-number c =
    omega (arith, next_below c.loop-digit.number c.loop-digit.digit-index c.args.digits.now c.requires.digits c.requires.few (omega arith) c.loop-digit.invariant)

pub returns-clause-bound : goal.returns-clause-bound
returns-clause-bound c =
    let all_read = at_drop_all (and_digits c.loop-digit.number) c.args.digits.now c.loop-digit.digit-index (omega arith) in
    omega (arith, digits_below 0 1 c.args.digits.now c.requires.digits (omega arith))
