-- The list that a few values are: GROQ-1.revision1, "Function call".
use Rattle.std.specs.Prelude.{List, [], ◌∷◌}
use Rattle.cs_value.specs.Tree.{Tree}
use Rattle.cs_direct.specs.declared.few.Few.{Few}
use Rattle.cs_direct.specs.declared.few.Few.TheVariants.{Zero, One, Two}
use Rattle.cs_operand.specs.Operands.{operand}

abbrev pub few : Few → List Tree
few Zero = []
few (One a) = operand a ∷ []
few (Two a b) = operand a ∷ operand b ∷ []
