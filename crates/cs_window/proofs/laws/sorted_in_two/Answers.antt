use Rattle.cs_window.proofs.Parted.{in-two}
use Rattle.cs_window.proofs.laws.sorted_in_two.Goals as goal

pub returns : goal.returns
returns c = λ ds passes xs closed. in-two ds passes closed xs
