-- The texts are compared as they are computed.
use Rattle.std.proofs.Common.{refl}
use Rattle.std.specs.Str.{chars}
use Rattle.std.specs.Fmt.{digits}
use Rattle.cs_meaning.proofs.examples.functions_of_values.Goals as goal

pub returns : goal.returns
unfolding chars digits
returns c = refl
