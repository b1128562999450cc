use Rattle.std.proofs.Common.{◌<◌, arith, drop}
use Rattle.std.specs.Prelude.{fold}
use Rattle.cs_syntax.proofs.Digits.{passes, next}
use Rattle.cs_syntax.proofs.written.whole_number.Goals as goal

pub returns-then-value-gt18446744073709551615 : goal.returns-then-value-gt18446744073709551615
returns-then-value-gt18446744073709551615 c =
    let xs = c.as_bytes-digit-items.result.now in
    let above : 18446744073709551615 < fold next c.loop-digit.value (drop c.loop-digit.digit-index xs) =
    passes 18446744073709551615 c.loop-digit.value c.loop-digit.digit-index xs (omega arith) (omega arith) in
    omega (arith, above)
