-- What a script has the program write, and how a run ends: this project's profile.
use Rattle.std.specs.Prelude.{◌≡◌, ℕ, ◌≤◌, List, length, take, Option}
use Rattle.std.specs.Io.KnownBytes.{Appends}
use Rattle.cs_io.specs.Causes.{Rose}
use Rattle.cs_io.specs.Laws.{given_lines}
use Rattle.cs_io.specs.Lines.{feed_of}
use Rattle.cs_reply.specs.Stated.{Stop}
use Rattle.cs_machine.specs.Expected.{Ending, done, bad_usage, bad_data, bad_input, stop_ends}
use Rattle.cs_machine.specs.Expected as machine
use Rattle.cs_machine.specs.State.{State}
use Rattle.cs_machine.specs.Machine.{step, written}
use Rattle.cs_run.specs.declared.status.Status.{Status}
use Rattle.cs_run.specs.declared.status.Status.TheVariants.{Done, Usage, ReadFault, Data, Input, WriteFault, OpenFault}

-- what a script has the machine write from a state
abbrev pub script_writes : State → List ℕ → List ℕ
script_writes = machine.script_writes step

-- what the first k lines of a script have it write
abbrev pub first_replies : State → ℕ → List ℕ → List ℕ
first_replies s k script = written s 1 (take k (given_lines (feed_of script)))

-- what was written is the replies to so many of the script's lines
abbrev pub WroteReplies : State → Option (List ℕ) → Option (List ℕ) → List ℕ → Type 0
WroteReplies s old new script = (k : ℕ) × (k ≤ length (given_lines (feed_of script)))
    × Appends old new (first_replies s k script)

-- the status of a run that ends so
abbrev pub status_of : Ending → Status
status_of done = Done
status_of bad_usage = Usage
status_of bad_data = Data
status_of bad_input = Input

-- the status of a run that something stops
abbrev pub stop_status : Stop → Status
stop_status stop = status_of (stop_ends stop)

-- no count fell, and a fault is answered only where its own count rose
pub record Causes (status : Status) (opens opens' reads reads' writes writes' : ℕ) : Type 0 where
  pub opens_later : opens ≤ opens'
  pub reads_later : reads ≤ reads'
  pub writes_later : writes ≤ writes'
  pub opened : status ≡ OpenFault → Rose opens opens'
  pub read : status ≡ ReadFault → Rose reads reads'
  pub written : status ≡ WriteFault → Rose writes writes'
