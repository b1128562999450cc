-- How many documents a run visits at most, where each query of its script is refused or simple:
-- this project's profile.
use Rattle.std.specs.Prelude.{◌≡◌, ◌≤◌, ℕ, ◌+◌, List, [], ◌∷◌, Bool, true, ◌&&◌, Option, Some, None, ⊤}
use Rattle.cs_io.specs.Laws.{given_lines}
use Rattle.cs_io.specs.Lines.{feed_of}
use Rattle.cs_io.specs.Names.{Files, file_bytes}
use Rattle.cs_machine.specs.Expected.{Task, no_task, play, generate, Start, begins, stops, start_with}
use Rattle.cs_machine.specs.State.{State}
use Rattle.cs_core.specs.Does.{step_state}
use Rattle.cs_core.specs.Visits.{is_simple_line, line_cost}

-- each query of the lines, the first of which has the number n, is refused or simple
abbrev pub are_simple_lines : ℕ → List (List ℕ) → Bool
are_simple_lines n [] = true
are_simple_lines n (line ∷ lines) = is_simple_line n line && are_simple_lines (n + 1) lines

-- the costs of the lines, each over the documents that the lines before it lead to
abbrev pub lines_cost : State → ℕ → List (List ℕ) → ℕ
lines_cost s n [] = 0
lines_cost s n (line ∷ lines) = line_cost s n line + lines_cost (step_state s n line) (n + 1) lines

-- the counter rose by at most the costs of the lines, if their queries are refused or simple
abbrev pub LinesCost : State → List (List ℕ) → ℕ → ℕ → Type 0
LinesCost s lines before after =
    are_simple_lines 1 lines ≡ true → after ≤ before + lines_cost s 1 lines

-- the same of a script, where its bytes are told
abbrev pub ScriptCosts : State → Option (List ℕ) → ℕ → ℕ → Type 0
ScriptCosts s None before after = ⊤
ScriptCosts s (Some script) before after =
    LinesCost s (given_lines (feed_of script)) before after

-- by where the run begins: where something stops it, no document is visited
abbrev pub StartCosts : Start → List ℕ → ℕ → ℕ → Type 0
StartCosts (begins s) script before after =
    LinesCost s (given_lines (feed_of script)) before after
StartCosts (stops stop) script before after = after ≤ before

-- by what is asked for; nothing is said of a generated script, whose last query is not simple
abbrev pub TaskCosts : Task → Files → ℕ → ℕ → Type 0
TaskCosts no_task files before after = after ≤ before
TaskCosts (play name script) files before after =
    StartCosts (start_with name files) (file_bytes files script) before after
TaskCosts (generate documents) files before after = ⊤

-- the same, where the library tells its bytes
abbrev pub RunCosts : Task → Option Files → ℕ → ℕ → Type 0
RunCosts task None before after = ⊤
RunCosts task (Some files) before after = TaskCosts task files before after
