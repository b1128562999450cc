-- What a run is to write, and how it is to end, by what its words ask for and the bytes of its
-- files: this project's profile.
use Rattle.std.specs.Prelude.{ℕ, List, [], ◌++◌, map, length, Option, None, Some, codes}
use Rattle.cs_io.specs.Laws.{given_lines}
use Rattle.cs_io.specs.Lines.{Feed, End, LineTooLong, SourceTooMuch, More, feed_of}
use Rattle.cs_io.specs.Names.{Files, file_bytes}
use Rattle.cs_gen.specs.Generated.{generated}
use Rattle.cs_gen.specs.Summary.{summary_line}
use Rattle.cs_reply.specs.Refusal as why
use Rattle.cs_reply.specs.Reply as plain
use Rattle.cs_reply.specs.Stated.{Stop, long_line, much, bad, dangling, stated_line, script as script_source}
use Rattle.cs_machine.specs.DataFile.{Loaded, dataset, stopped, loaded}
use Rattle.cs_machine.specs.Fold.{Step, state_after, replies, written}
use Rattle.cs_machine.specs.Machine.{step}
use Rattle.cs_machine.specs.Replies.{Reply, said, not_done}
use Rattle.cs_machine.specs.State.{State, begun}

-- how a run ends where nothing of the outside fails and memory is ample
pub data Ending : Type 0 where
  done : Ending
  bad_usage : Ending
  bad_data : Ending
  bad_input : Ending

-- ---- a script
-- what follows the replies to the lines that a script gives
abbrev pub last_line : Feed → List ℕ
last_line End = []
last_line (LineTooLong n) = stated_line (long_line script_source n)
last_line (SourceTooMuch n) = stated_line (much script_source n)
last_line (More n line rest) = last_line rest

abbrev pub feed_ends : Feed → Ending
feed_ends End = done
feed_ends (LineTooLong n) = bad_input
feed_ends (SourceTooMuch n) = bad_input
feed_ends (More n line rest) = feed_ends rest

-- what a script has a machine write from a state, and how it ends
abbrev pub script_writes : Step State → State → List ℕ → List ℕ
script_writes step s script =
    written step s 1 (given_lines (feed_of script)) ++ last_line (feed_of script)

abbrev pub script_ends : List ℕ → Ending
script_ends script = feed_ends (feed_of script)

-- ---- the start
-- how a run ends that something stops: a source is too big, or the data file is refused
abbrev pub stop_ends : Stop → Ending
stop_ends (long_line source n) = bad_input
stop_ends (much source n) = bad_input
stop_ends (bad n cause) = bad_data
stop_ends (dangling from to) = bad_data

-- where a run begins: in a state, or it is stopped before the script
pub data Start : Type 0 where
  begins : State → Start
  stops : Stop → Start

-- the dataset of a data file is that of the state in which the script begins
abbrev pub start_of : Loaded → Start
start_of (dataset docs) = begins (begun docs)
start_of (stopped stop) = stops stop

-- with no data file a run begins with no documents
abbrev pub start_with : Option (List ℕ) → Files → Start
start_with None files = begins (begun [])
start_with (Some name) files = start_of (loaded (file_bytes files name))

abbrev pub start_writes : Step State → Start → List ℕ → List ℕ
start_writes step (begins s) script = script_writes step s script
start_writes step (stops stop) script = stated_line stop

abbrev pub start_ends : Start → List ℕ → Ending
start_ends (begins s) script = script_ends script
start_ends (stops stop) script = stop_ends stop

-- ---- a generated script
-- The summary tells no cause, so a refused transaction is counted as any other refused line.
abbrev pub counted : Reply → plain.Reply
counted (said r) = r
counted (not_done r) = plain.refused why.bad_tx

-- the summary of lines, played from no documents
abbrev pub summary_of : Step State → List (List ℕ) → List ℕ
summary_of step lines =
    summary_line (length (state_after step (begun []) 1 lines).docs) (length lines)
    (map (λ r. counted r.1) (replies step (begun []) 1 lines))

-- ---- the run
-- what the words of the command line ask for: nothing, where they are refused; the data file of a
-- name, where one is given, and the script of a name; or the generated script of so many documents
pub data Task : Type 0 where
  no_task : Task
  play : Option (List ℕ) → List ℕ → Task
  generate : ℕ → Task

-- what is written where the words are refused
abbrev pub usage_line : List ℕ
usage_line = codes "{\"error\":\"usage\"}\n"

-- what a run of a machine whose step is given is to write
abbrev pub expected_by : Step State → Task → Files → List ℕ
expected_by step no_task files = usage_line
expected_by step (play data_name script) files =
    start_writes step (start_with data_name files) (file_bytes files script)
expected_by step (generate n) files = summary_of step (generated n)

-- what a run of the plain machine is to write
abbrev pub expected : Task → Files → List ℕ
expected = expected_by step

abbrev pub expected_end : Task → Files → Ending
expected_end no_task files = bad_usage
expected_end (play data_name script) files =
    start_ends (start_with data_name files) (file_bytes files script)
expected_end (generate n) files = done
