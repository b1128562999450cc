-- The laws of the machine's steps.
use Rattle.std.specs.Prelude.{◌≡◌, ℕ, List, true}
use Rattle.cs_live.specs.Lives.{are_simple_lives}
use Rattle.cs_machine.specs.State.{State}
use Rattle.cs_core.specs.Does.{step_state}
use Rattle.cs_core.specs.Visits.{is_simple_line}

-- a line whose queries are refused or simple leaves all live queries simple, where they were
abbrev pub SimpleLinesKeepLivesSimple : Type 0
SimpleLinesKeepLivesSimple =
    (s : State) (n : ℕ) (line : List ℕ) → is_simple_line n line ≡ true
    → are_simple_lives s.lives ≡ true → are_simple_lives (step_state s n line).lives ≡ true
