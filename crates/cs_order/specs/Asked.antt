-- How many of the first elements of a list a step looks at.
use Rattle.std.specs.Prelude.{ℕ, ◌+◌, ℤ, pos, Bool, Option, Some, None, if◌then◌else◌}
use Rattle.cs_syntax.specs.Expression.{Step, slice, bracket, Steps, no_steps, more_steps}
use Rattle.cs_plan.specs.Steps.{Bracketed, position, bracketed, position_of}

-- a slice whose ends are both counted from the start looks at no more than those before its end
abbrev pub slice_end : Option (Option ℤ) → Option (Option ℤ) → Bool → Option ℕ
slice_end (Some (Some (pos i))) (Some (Some (pos j))) closed = Some (if closed then j + 1 else j)
slice_end i j closed = None

-- an element that is counted from the start
abbrev pub bracket_end : Bracketed → Option ℕ
bracket_end (position (Some (pos n))) = Some (n + 1)
bracket_end b = None

abbrev pub step_end : Step → Option ℕ
step_end (slice from to closed) = slice_end (position_of from) (position_of to) closed
step_end (bracket e) = bracket_end (bracketed e)
step_end s = None

-- how many a rest looks at, where its first step says so
abbrev pub first_asked : Steps → Option ℕ
first_asked no_steps = None
first_asked (more_steps s ss) = step_end s
