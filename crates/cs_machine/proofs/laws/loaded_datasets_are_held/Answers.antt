use Rattle.cs_machine.proofs.Loads.{loaded-held}
use Rattle.cs_machine.proofs.laws.loaded_datasets_are_held.Goals as goal

pub returns : goal.returns
returns c = loaded-held c.none_dangles_where_clean.ensures
