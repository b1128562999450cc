-- What contracts see of the machine.
use Rattle.std.specs.Prelude.{[], ◌∷◌, ◌++◌}
use Rattle.cs_live.specs.Lives.{LiveQuery}
use Rattle.cs_machine.specs.State.{State, with_lives}
use Rattle.cs_state.specs.State as held
use Rattle.cs_core.specs.declared.machine.Core.{Core}

abbrev pub state : Core → State
state c = held.state c.state

-- one live query more, the last
abbrev pub with_one_live : LiveQuery → State → State
with_one_live l s = with_lives (s.lives ++ l ∷ []) s

-- what is kept beside the documents fits them
abbrev pub IsFitting : Core → Type 0
IsFitting c = held.IsFitting c.state

-- where the machine is not spent, what is kept beside its documents fits them
abbrev pub IsSound : Core → Type 0
IsSound c = held.IsSound c.state

-- it is not spent, and what is kept beside its documents fits them
abbrev pub IsUsable : Core → Type 0
IsUsable c = held.IsUsable c.state
