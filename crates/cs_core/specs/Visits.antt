-- How many documents a line visits at most, where its queries are simple: this project's profile.
use Rattle.std.specs.Prelude.{◌≡◌, ◌≤◌, ℕ, ◌+◌, List, Bool, true, cond, Option, Some, None}
use Rattle.cs_parse.specs.Verdict.{verdict}
use Rattle.cs_json.specs.Reading.{Outcome, not_json, too_deep, not_whole, value, outcome}
use Rattle.cs_wire.specs.Blank.{is_blank_line}
use Rattle.cs_wire.specs.Commands.{Request, mutate, query, live, listen, stop, at}
use Rattle.cs_wire.specs.Rows.{command}
use Rattle.cs_body.specs.Body.{body_of}
use Rattle.cs_txn.specs.Visits.{is_simple_reading, reading_cost}
use Rattle.cs_live.specs.Lives.{are_simple_lives}
use Rattle.cs_machine.specs.Fold.{Stepped}
use Rattle.cs_machine.specs.Machine.{deepest_line}
use Rattle.cs_machine.specs.State.{State}
use Rattle.cs_state.specs.Visits.{is_simple_body, body_cost}
use Rattle.cs_state.specs.Visits as held
use Rattle.cs_core.specs.declared.machine.Core.{Core}

-- each query of the command is refused or simple
abbrev pub is_simple_request : ℕ → Request → Bool
is_simple_request n (mutate body) = is_simple_body (body_of body n)
is_simple_request n (query s params) = is_simple_reading (verdict s)
is_simple_request n (live name s params) = is_simple_reading (verdict s)
is_simple_request n (listen name s params result previous) = true
is_simple_request n (stop name) = true
is_simple_request n (at moment) = true

-- the sum of the costs of the command's queries, each over the dataset that it is asked of
abbrev pub request_cost : State → ℕ → Request → ℕ
request_cost s n (mutate body) = body_cost s (body_of body n)
request_cost s n (query text params) = reading_cost s.docs params (verdict text)
request_cost s n (live name text params) = reading_cost s.docs params (verdict text)
request_cost s n (listen name text params result previous) = 0
request_cost s n (stop name) = 0
request_cost s n (at moment) = 0

-- the same of what stands on a line, if it is a command
abbrev pub is_simple_command : ℕ → Option Request → Bool
is_simple_command n None = true
is_simple_command n (Some request) = is_simple_request n request

abbrev pub command_cost : State → ℕ → Option Request → ℕ
command_cost s n None = 0
command_cost s n (Some request) = request_cost s n request

-- the command that was read
abbrev pub read_command : Outcome → Option Request
read_command not_json = None
read_command too_deep = None
read_command not_whole = None
read_command (value t) = command t

-- the command on a line, if there is one
abbrev pub line_command : List ℕ → Option Request
line_command line = cond (is_blank_line line) None (read_command (outcome deepest_line line))

-- each query of the line is refused or simple
abbrev pub is_simple_line : ℕ → List ℕ → Bool
is_simple_line n line = is_simple_command n (line_command line)

-- the sum of the costs of the line's queries
abbrev pub line_cost : State → ℕ → List ℕ → ℕ
line_cost s n line = command_cost s n (line_command line)

-- The counter rose by at most this cost, if the queries are simple and the changes of the step
-- touch no record that a live query keeps.
abbrev pub VisitsFew : Bool → ℕ → Core → Stepped State → ℕ → ℕ → Type 0
VisitsFew simple cost old out before after = held.VisitsFew simple cost old.state out before after

-- The counter rose by at most this cost, if the queries of the line and all live queries are
-- simple: a commit adds nothing for these.
abbrev pub CostsAtMost : Bool → ℕ → State → ℕ → ℕ → Type 0
CostsAtMost simple cost s before after =
    simple ≡ true → are_simple_lives s.lives ≡ true → after ≤ before + cost
