use Rattle.std_collections.specs.Map.Iter.{deref_pair}
use Rattle.std_collections.proofs.IterRuns.{shows_in_order, shows_values_in_order}
use Rattle.cs_value.proofs.map.OrderedMap.iter.Goals as goal

pub returns-clause-runs : goal.returns-clause-runs
returns-clause-runs g c = shows_in_order deref_pair

pub returns-clause-values_run : goal.returns-clause-values_run
returns-clause-values_run g c = shows_values_in_order deref_pair
