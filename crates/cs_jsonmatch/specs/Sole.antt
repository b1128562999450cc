-- Steps that select one member of a value at most. For private clauses.
use Rattle.std.specs.Prelude.{◌≡◌, [], ◌∷◌, map, Option, Some, None, false}
use denote.Ref.{Bor}
use Rattle.cs_value.specs.Tree.{Tree}
use Rattle.cs_value.specs.View.{tree}
use Rattle.cs_value.specs.declared.val.Val.{Val}
use Rattle.cs_jsonmatch.specs.Path.{position, named, Step, step, Path}
use Rattle.cs_jsonmatch.specs.Places.{places}
use Rattle.cs_jsonmatch.specs.View.{part_of}
use Rattle.cs_jsonmatch.specs.declared.places.Key.{Key}
use Rattle.cs_jsonmatch.specs.declared.sole.Sole.{Sole}
use Rattle.cs_jsonmatch.specs.declared.sole.Sole.TheVariants as sole

-- the step of one name or one position, without `..`
abbrev pub sole_step : Sole → Step
sole_step (sole.Name n) = step false (named n.now ∷ [])
sole_step (sole.Position k) = step false (position k ∷ [])

-- The one member that such a step selects, with its part: the places of the steps from this one on
-- are those of the others inside it. Where there is none, there are no places.
abbrev pub IsMember : Tree → Sole → Path → Option (Key × Bor Val) → Type 0
IsMember v s ss None = places (sole_step s ∷ ss) v ≡ []
IsMember v s ss (Some m) =
    places (sole_step s ∷ ss) v ≡ map (λ l. part_of m.0 ∷ l) (places ss (tree m.1.now))
