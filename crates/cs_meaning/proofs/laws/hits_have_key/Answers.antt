use Rattle.std.proofs.Common.{[], ◌∷◌}
use Rattle.cs_value.specs.Tree.{null}
use Rattle.cs_view.specs.Keys.{has}
use Rattle.cs_plan.specs.Simple.{filter_of, steps_behind, query_key}
use Rattle.cs_meaning.specs.Hits.{is_hit}
use Rattle.cs_meaning.proofs.Sound.{filter-within}
use Rattle.cs_meaning.proofs.TrueKey.{true-has_key}
use Rattle.cs_meaning.proofs.laws.hits_have_key.Goals as goal

pub returns : goal.returns
returns c = λ e params docs. filter-within (is_hit e params) (has (query_key e params)) (λ d h. true-has_key [] params (filter_of (steps_behind e)) (null ∷ []) d h) docs
