use Rattle.std.proofs.Common.{List, [], ◌∷◌, ◌+◌, refl, arith}
use Rattle.std.proofs.lemmas.Grind.{common_steps}
use Rattle.cs_value.specs.Tree.{Tree}
use Rattle.cs_view.specs.declared.key.Key.{Key}
use Rattle.cs_meaning.specs.Laws.{AgreeOn}
use Rattle.cs_meaning.specs.Looked.{looked}
use Rattle.cs_meaning.proofs.Agree.{AllSame}
use Rattle.cs_meaning.proofs.Sound.{sound}
use Rattle.cs_meaning.proofs.laws.looked_settles_value.Goals as goal

all_same : (d1 d2 : List Tree) (ks : List Key) → AgreeOn ks d1 d2 → AllSame d1 d2 ks
all_same d1 d2 [] h = tt
all_same d1 d2 (k ∷ ks) h = (h k (0, omega arith, refl), all_same d1 d2 ks (λ q at. h q (at.0 + 1, omega (arith, at.1), grind (arith, common_steps, at.2))))

pub returns : goal.returns
returns c = λ e params scope d1 d2 h. sound d1 d2 params e scope (all_same d1 d2 (looked d1 params e scope) h)
