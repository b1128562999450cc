use Rattle.std.proofs.Common.{ap, [], ◌∷◌}
use Rattle.cs_value.specs.Tree.{null}
use Rattle.cs_meaning.specs.Operators.{is_true}
use Rattle.cs_plain.proofs.laws.plain_holds_anywhere.Goals as goal

pub returns : goal.returns
returns c = λ q filter params d docs h.
    ap is_true ((c.plain_is_quiet.ensures q filter h).1 params (d ∷ null ∷ []) docs [])
