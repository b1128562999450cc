-- The plain machine, this project's profile: what each line of a script does to the state, and what
-- it replies.
use Rattle.std.specs.Prelude.{ℕ, List, [], cond, Option, Some, None}
use Rattle.cs_value.specs.Tree.{Tree}
use Rattle.cs_json.specs.Reading.{Outcome, not_json, too_deep, not_whole, value, outcome}
use Rattle.cs_wire.specs.Blank.{is_blank_line}
use Rattle.cs_wire.specs.Commands.{Request}
use Rattle.cs_wire.specs.Rows.{command}
use Rattle.cs_reply.specs.Refusal as why
use Rattle.cs_machine.specs.Fold.{Stepped}
use Rattle.cs_machine.specs.Fold as fold
use Rattle.cs_machine.specs.Refused.{refuse}
use Rattle.cs_machine.specs.Rows.{row}
use Rattle.cs_machine.specs.State.{State}

-- how many levels of lists and objects a line may nest
abbrev pub deepest_line : ℕ
deepest_line = 64

-- what each command leads to, in a state and on the line of a number
abbrev pub Table : Type 0
Table = State → ℕ → Request → Stepped State

abbrev pub by_command : Table → State → ℕ → Option Request → Stepped State
by_command rows s n None = refuse s why.bad_command
by_command rows s n (Some request) = rows s n request

-- the value of a line is done as the command that it is
abbrev pub obeyed : Table → State → ℕ → Tree → Stepped State
obeyed rows s n t = by_command rows s n (command t)

-- a line that was read, or the first fault of its JSON
abbrev pub heard : Table → State → ℕ → Outcome → Stepped State
heard rows s n not_json = refuse s why.not_json
heard rows s n too_deep = refuse s why.too_deep
heard rows s n not_whole = refuse s why.not_whole
heard rows s n (value t) = obeyed rows s n t

-- what the line with this number leads to, by the table of the commands: a blank line to nothing
abbrev pub step_by : Table → State → ℕ → List ℕ → Stepped State
step_by rows s n line =
    cond (is_blank_line line) (record { state = s; replies = [] })
    (heard rows s n (outcome deepest_line line))

-- the step of the plain machine
unfoldable pub step : State → ℕ → List ℕ → Stepped State
step = step_by row

-- the state after the lines, the first of which has the number n
abbrev pub state_after : State → ℕ → List (List ℕ) → State
state_after = fold.state_after step

-- what the lines have the machine write
abbrev pub written : State → ℕ → List (List ℕ) → List ℕ
written = fold.written step
