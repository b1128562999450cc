-- What the parts of a run leave. For private clauses.
use Rattle.std.specs.Prelude.{◌≡◌, ◌≢◌, ℕ, List, [], Option, None, Some, Result, Ok, Err, IfSome, MatchOption, ⊤}
use Rattle.std.specs.Io.KnownBytes.{Appends, Keeps}
use Rattle.cs_io.specs.Bytes.{AppendsPartOf}
use Rattle.cs_io.specs.Lines.{whole_lines}
use Rattle.cs_io.specs.Names.{Files}
use Rattle.cs_io.specs.declared.library.Asked.{Asked}
use Rattle.cs_docs.specs.Store.{docs}
use Rattle.cs_docs.specs.declared.docs.Docs.{Docs}
use Rattle.cs_reply.specs.Stated.{stated_line}
use Rattle.cs_machine.specs.Expected.{done, bad_input, Start, begins, stops, start_with, script_ends}
use Rattle.cs_run.specs.Expected.{script_writes, stop_status, WroteReplies}
use Rattle.cs_run.specs.Headline.{taken_of}
use Rattle.cs_load.specs.Loading.{AsksFor, stop_of}
use Rattle.cs_machine.specs.Machine.{written}
use Rattle.cs_machine.specs.State.{State, begun}
use Rattle.cs_load.specs.declared.fault.LoadFault.{LoadFault}
use Rattle.cs_load.specs.declared.fault.LoadFault.TheVariants as fault
use Rattle.cs_run.specs.declared.status.Status.{Status}
use Rattle.cs_run.specs.declared.status.Status.TheVariants.{Done, ReadFault, Usage, Data, Input, WriteFault, NoMemory, OpenFault}

-- a stated line was written and the status given, or memory or the sink failed
pub record Stated (result status : Status) (line : List ℕ) (old new : Option (List ℕ)) : Type 0
  where
    pub whole : result ≢ WriteFault → result ≢ NoMemory → (result ≡ status) × Appends old new line
    pub part : AppendsPartOf old new line
    pub none : result ≡ NoMemory → Appends old new []

-- what the run of one line that could not be ended leaves
abbrev pub LineStops : Status → Option (List ℕ) → Option (List ℕ) → List ℕ → Type 0
LineStops WriteFault old new reply = AppendsPartOf old new reply
LineStops NoMemory old new reply = Keeps old new
LineStops Done old new reply = ⊥
LineStops Usage old new reply = ⊥
LineStops Data old new reply = ⊥
LineStops Input old new reply = ⊥
LineStops ReadFault old new reply = ⊥
LineStops OpenFault old new reply = ⊥

-- what was written of a script of which `rest` is left, by how the run ended
abbrev pub ScriptWrites : State → Status → Option (List ℕ) → Option (List ℕ) → List ℕ → List ℕ
    → Type 0
ScriptWrites s Done old new script rest = (script_ends script ≡ done)
    × Appends old new (script_writes s script) × (rest ≡ [])
ScriptWrites s Input old new script rest = (script_ends script ≡ bad_input)
    × Appends old new (script_writes s script)
ScriptWrites s ReadFault old new script rest =
    Appends old new (written s 1 (whole_lines (taken_of script rest)))
ScriptWrites s WriteFault old new script rest = AppendsPartOf old new (script_writes s script)
ScriptWrites s NoMemory old new script rest = WroteReplies s old new script
ScriptWrites s Usage old new script rest = ⊥
ScriptWrites s Data old new script rest = ⊥
ScriptWrites s OpenFault old new script rest = ⊥

-- the same, where the bytes are told
abbrev pub ToldWrites : State → Status → Option (List ℕ) → Option (List ℕ) → Option (List ℕ)
    → Option (List ℕ) → Type 0
ToldWrites s status old new None rest = ⊤
ToldWrites s status old new (Some script) None = ⊥
ToldWrites s status old new (Some script) (Some rest) = ScriptWrites s status old new script rest

-- where a run begins, by what the loading of its data file answered
abbrev pub Starts : Result Docs LoadFault → Start → Type 0
Starts (Ok d) begin = begin ≡ begins (begun (docs d))
Starts (Err fault) begin = IfSome (stop_of fault) (λ stop. begin ≡ stops stop)

abbrev pub ToldStarts : Result Docs LoadFault → Option (List ℕ) → Option Files → Type 0
ToldStarts r name None = ⊤
ToldStarts r name (Some files) = Starts r (start_with name files)

-- the data file's name was asked for, where there is one
abbrev pub AsksNamed : Option (List ℕ) → Result Docs LoadFault → List Asked → List Asked → Type 0
AsksNamed None r old new = new ≡ old
AsksNamed (Some name) r old new = AsksFor r old new name

-- how a run ends that nothing of its data file stops
abbrev pub failure_status : LoadFault → Status
failure_status fault.Open = OpenFault
failure_status fault.Read = ReadFault
failure_status fault.NoMemory = NoMemory
failure_status (fault.TooLong n) = Input
failure_status (fault.TooMuch n) = Input
failure_status (fault.Bad n c) = Data
failure_status (fault.Dangling from to) = Data

-- how a run ends whose data file was not loaded
abbrev pub DataEnds : LoadFault → Status → Option (List ℕ) → Option (List ℕ) → Type 0
DataEnds fault result old new =
    MatchOption (stop_of fault) ((result ≡ failure_status fault) × Appends old new [])
    (λ stop. Stated result (stop_status stop) (stated_line stop) old new)
