-- What contracts say of a step.
use Rattle.std.specs.Prelude.{◌≡◌, ℕ, List, map, true, false}
use Rattle.cs_gen.specs.declared.tally.Tally.{Tally}
use Rattle.cs_reply.specs.Reply as plain
use Rattle.cs_machine.specs.Expected.{counted}
use Rattle.cs_machine.specs.Fold.{Stepped}
use Rattle.cs_machine.specs.Machine.{step}
use Rattle.cs_machine.specs.Replies.{reply_lines, numbered}
use Rattle.cs_machine.specs.State.{State}
use Rattle.cs_state.specs.Does as held
use Rattle.cs_core.specs.declared.machine.Core.{Core}
use Rattle.cs_core.specs.declared.machine.CoreFault.{CoreFault}
use Rattle.cs_core.specs.declared.machine.CoreFault.TheVariants.{NoMemory, Spent}

-- what the line has the machine write
abbrev pub step_writes : State → ℕ → List ℕ → List ℕ
step_writes s n line = reply_lines (numbered n (step s n line).replies)

abbrev pub step_state : State → ℕ → List ℕ → State
step_state s n line = (step s n line).state

-- the replies to the line, as they are counted
abbrev pub step_replies : State → ℕ → List ℕ → List plain.Reply
step_replies s n line = map counted (step s n line).replies

-- What was added to what is written, how many replies these are, and the machine now, are those of
-- a step with the line of the number; and the machine can be used on.
abbrev pub Does : List ℕ → List ℕ → Tally → Core → ℕ → Stepped State → Type 0
Does before after tally core n out = held.Does before after tally core.state n out

-- a failed step left the machine as it was
abbrev pub IsKept : Core → Core → Type 0
IsKept old new = held.IsKept old.state new.state

-- How a step that found no memory leaves the machine: as it was; or spent, which only the line of
-- an accepted transaction does, and then with the documents after it.
abbrev pub Leaves : Core → Core → Stepped State → Type 0
Leaves old new out = held.Leaves old.state new.state out

-- what each fault says of the machine before the step, and after it
abbrev pub LeavesAfter : CoreFault → Core → Core → Stepped State → Type 0
LeavesAfter Spent old new out = (old.state.spent ≡ true) × (new ≡ old)
LeavesAfter NoMemory old new out = (old.state.spent ≡ false) × Leaves old new out
