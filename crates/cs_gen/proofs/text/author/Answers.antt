use Rattle.std.proofs.lemmas.List.{append_assoc}
use Rattle.cs_gen.proofs.text.author.Goals as goal

pub returns : goal.returns
returns c = simp append_assoc c.in_ok-format.ensures.ok
