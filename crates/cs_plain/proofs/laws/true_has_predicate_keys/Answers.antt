use Rattle.std.proofs.Common.{[], ◌∷◌}
use Rattle.cs_value.specs.Tree.{null}
use Rattle.cs_plain.proofs.laws.true_has_predicate_keys.Goals as goal

pub returns : goal.returns
returns c = λ filter params d h. (c.true_has_each_key.ensures filter params (null ∷ []) [] d).0 h
