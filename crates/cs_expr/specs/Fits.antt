-- What is left of a chain weighs no more than a chain does. For private clauses.
use Rattle.std.specs.Prelude.{◌≡◌, ℕ, ◌≤◌, ⊤, List, [], ◌∷◌, map}
use Rattle.cs_syntax.specs.View.{step_of}
use Rattle.cs_parts.specs.Kinds.{kinds_of}
use Rattle.cs_levels.specs.Levels.{Waiting}
use Rattle.cs_levels.specs.Nodes.{steps_in}
use Rattle.cs_levels.specs.declared.levels.Remaining.{Remaining}
use Rattle.cs_levels.specs.declared.levels.Reached.{Reached}
use Rattle.cs_levels.specs.declared.levels.Reached.TheVariants.{End, Whole, Each}
use Rattle.cs_expr.specs.Weight.{steps_weight}

-- the kinds of a rest are those of its steps, and it weighs no more than this
abbrev pub Fits : ℕ → Remaining → Type 0
Fits n r = (r.kinds.now ≡ kinds_of (map step_of r.steps.now)) × (steps_weight (steps_in r) ≤ n)

-- each of them fits
abbrev pub AllFit : ℕ → List Waiting → Type 0
AllFit n [] = ⊤
AllFit n (w ∷ ws) = Fits n w.rest × AllFit n ws

abbrev pub reached_weight : Reached → ℕ
reached_weight (End g) = 0
reached_weight (Whole g r) = steps_weight (steps_in r)
reached_weight (Each g joins r) = steps_weight (steps_in r)

abbrev pub ReachedFits : ℕ → Reached → Type 0
ReachedFits n (End g) = ⊤
ReachedFits n (Whole g r) = Fits n r
ReachedFits n (Each g joins r) = Fits n r
