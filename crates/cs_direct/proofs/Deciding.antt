-- A left side that decides is the value.
use Rattle.std.proofs.Common.{◌≡◌, true, false, true≢false, refl, sym}
use Rattle.cs_value.specs.Tree.{Tree, boolean}
use Rattle.cs_syntax.specs.declared.tree.BinSign.{BinSign}
use Rattle.cs_syntax.specs.declared.tree.BinSign.TheVariants as sign
use Rattle.cs_meaning.specs.Operators.{operator_of, operated, decides}

pub decided_value : (s : BinSign) (v w : Tree) → decides (operator_of s) v ≡ true → v ≡ operated s v w
decided_value sign.And (boolean false) w h = refl
decided_value sign.And (boolean true) w h = absurd (true≢false (sym h))
decided_value sign.And _ w h = absurd (true≢false (sym h))
decided_value sign.Or (boolean true) w h = refl
decided_value sign.Or (boolean false) w h = absurd (true≢false (sym h))
decided_value sign.Or _ w h = absurd (true≢false (sym h))
decided_value _ v w h = absurd (true≢false (sym h))
