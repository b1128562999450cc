use Rattle.cs_view.proofs.Changed.{own_ids, standing-in_a_row}
use Rattle.cs_view.proofs.laws.changes_in_a_row.Goals as goal

pub returns : goal.returns
returns c = λ docs cs es one two id. standing-in_a_row id docs cs es (own_ids cs one) (own_ids es two)
