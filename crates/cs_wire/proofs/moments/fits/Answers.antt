use Rattle.std.proofs.Common.{refl, arith}
use Rattle.std.proofs.lemmas.Bool.Decides.{nat_tests}
use Rattle.cs_wire.proofs.Digits.{unfit}
use Rattle.cs_wire.proofs.moments.fits.Goals as goal

pub returns-then-pattern-bytes : goal.returns-then-pattern-bytes
returns-then-pattern-bytes c = unfit c.args.pattern.now c.args.bytes.now _ refl (λ e. grind (arith, nat_tests))
