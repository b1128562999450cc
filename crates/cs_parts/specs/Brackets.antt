-- What a bracket of the code asks for.
use Rattle.cs_plan.specs.Steps.{Bracketed, position, named, condition}
use Rattle.cs_parts.specs.declared.brackets.Bracket.{Bracket}
use Rattle.cs_parts.specs.declared.brackets.Bracket.TheVariants.{Position, Named, Condition}

abbrev pub stands_for : Bracket → Bracketed
stands_for (Position place) = position place
stands_for (Named w) = named w.now
stands_for Condition = condition
