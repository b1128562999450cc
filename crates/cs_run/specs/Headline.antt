-- What a run writes, how it ends and what it asks for, by its words and the bytes of the files:
-- this project's profile.
use Rattle.std.specs.Prelude.{◌≡◌, ◌⊎◌, ℕ, ◌-◌, cond, ◌==◌, List, [], ◌∷◌, map, length, take, drop, Option, None, Some, ⊤, MatchOption}
use Rattle.std.specs.Io.KnownBytes.{Appends}
use Rattle.cs_io.specs.Bytes.{AppendsPartOf}
use Rattle.cs_io.specs.Causes.{Rose}
use Rattle.cs_io.specs.Lines.{whole_lines}
use Rattle.cs_io.specs.Names.{Files, file_bytes}
use Rattle.cs_io.specs.declared.library.Asked.{Asked}
use Rattle.cs_gen.specs.Generated.{generated}
use Rattle.cs_machine.specs.Expected.{Task, no_task, play, generate, expected, expected_end, summary_of, usage_line, Start, begins, stops, start_with}
use Rattle.cs_machine.specs.Machine.{step, written}
use Rattle.cs_args.specs.Words.{takes_words, data_of, script_of, gen_of}
use Rattle.cs_run.specs.Expected.{status_of, WroteReplies}
use Rattle.cs_run.specs.declared.status.Status.{Status}
use Rattle.cs_run.specs.declared.status.Status.TheVariants.{Done, ReadFault, Usage, Data, Input, WriteFault, NoMemory, OpenFault}

-- ---- what is asked for
-- words that are taken ask for a generated script, or for one to be played
abbrev pub asked_by : Option ℕ → List (List ℕ) → Task
asked_by (Some documents) words = generate documents
asked_by None words = play (data_of words) (script_of words)

-- what the words ask for
abbrev pub task_of : List (List ℕ) → Task
task_of words = cond (takes_words words) (asked_by (gen_of words) words) no_task

-- how a run ends where nothing of the outside fails and memory is ample
abbrev pub expected_status : Task → Files → Status
expected_status task files = status_of (expected_end task files)

-- ---- the names
abbrev pub and_then_name : Option (List ℕ) → List ℕ → List (List ℕ)
and_then_name None script = script ∷ []
and_then_name (Some name) script = name ∷ script ∷ []

-- the names that a task asks for: where a script is played, the data file's, where one is given,
-- and then the script's
abbrev pub names_of : Task → List (List ℕ)
names_of no_task = []
names_of (play name script) = and_then_name name script
names_of (generate documents) = []

-- what a list got
abbrev pub added : {X : Type 0} → List X → List X → List X
added old new = drop (length old) new

-- the names asked for in a call are a prefix of the names
pub record Asks (old new : List Asked) (names : List (List ℕ)) : Type 0 where
  pub kept : take (length old) new ≡ old
  pub prefix : map (λ a. a.name) (added old new) ≡ take (length (added old new)) names

abbrev pub last_number : List Asked → Option ℕ
last_number [] = None
last_number (a ∷ []) = a.number
last_number (a ∷ b ∷ rest) = last_number (b ∷ rest)

-- the number of the script, where it was opened: all names were asked for, and the last has one
abbrev pub script_number : List (List ℕ) → List Asked → Option ℕ
script_number names asked = cond (length asked == length names) (last_number asked) None

-- ---- what is written of a script that is played
-- nothing is left under the number
abbrev pub IsEmptied : (ℕ → Option (List ℕ)) → Option ℕ → Type 0
IsEmptied left number = MatchOption number ⊥ (λ n. left n ≡ Some [])

-- the bytes taken of a script of which `rest` is left
abbrev pub taken_of : List ℕ → List ℕ → List ℕ
taken_of bytes rest = take (length bytes - length rest) bytes

-- the replies to all whole lines in the bytes taken of a script
abbrev pub replies_so_far : Start → List ℕ → List ℕ → List ℕ
replies_so_far (begins s) bytes rest = written s 1 (whole_lines (taken_of bytes rest))
replies_so_far (stops stop) bytes rest = []

-- what was written when a read failed: those replies where the script was open, else nothing
abbrev pub WritesSoFar : Option ℕ → (ℕ → Option (List ℕ)) → Start → List ℕ → Option (List ℕ)
    → Option (List ℕ) → Type 0
WritesSoFar None left begin bytes old new = Appends old new []
WritesSoFar (Some number) left begin bytes old new =
    MatchOption (left number) ⊥ (λ rest. Appends old new (replies_so_far begin bytes rest))

-- what was written when memory was short: nothing, or the replies to so many lines
abbrev pub WritesLines : Start → Option (List ℕ) → Option (List ℕ) → List ℕ → Type 0
WritesLines (begins s) old new bytes = Appends old new [] ⊎ WroteReplies s old new bytes
WritesLines (stops stop) old new bytes = Appends old new []

-- ---- by what is asked for
-- the script that was played was read to its end
abbrev pub IsReadWhole : Task → List Asked → (ℕ → Option (List ℕ)) → Type 0
IsReadWhole no_task asked left = ⊤
IsReadWhole (play name script) asked left =
    IsEmptied left (script_number (and_then_name name script) asked)
IsReadWhole (generate documents) asked left = ⊤

-- what was written when a read failed, which none does but where a script is played
abbrev pub WritesReadSoFar : Task → Option (List ℕ) → Option (List ℕ) → Files → List Asked
    → (ℕ → Option (List ℕ)) → Type 0
WritesReadSoFar no_task old new files asked left = ⊥
WritesReadSoFar (play name script) old new files asked left =
    WritesSoFar (script_number (and_then_name name script) asked) left (start_with name files)
    (file_bytes files script) old new
WritesReadSoFar (generate documents) old new files asked left = ⊥

-- the same when an open failed
abbrev pub WritesUnopened : Task → Option (List ℕ) → Option (List ℕ) → Type 0
WritesUnopened no_task old new = ⊥
WritesUnopened (play name script) old new = Appends old new []
WritesUnopened (generate documents) old new = ⊥

-- what was written when memory was short: nothing, but where a script is played
abbrev pub WritesShort : Task → Option (List ℕ) → Option (List ℕ) → Files → Type 0
WritesShort no_task old new files = Appends old new []
WritesShort (play name script) old new files =
    WritesLines (start_with name files) old new (file_bytes files script)
WritesShort (generate documents) old new files = Appends old new []

-- ---- the headline
-- what was written, by how the run ended
abbrev pub RunWrites : Status → Task → Option (List ℕ) → Option (List ℕ) → Files → List Asked
    → (ℕ → Option (List ℕ)) → Type 0
RunWrites Done task old new files asked left = (expected_status task files ≡ Done)
    × Appends old new (expected task files) × IsReadWhole task asked left
RunWrites Usage task old new files asked left = (expected_status task files ≡ Usage)
    × Appends old new (expected task files)
RunWrites Data task old new files asked left = (expected_status task files ≡ Data)
    × Appends old new (expected task files)
RunWrites Input task old new files asked left = (expected_status task files ≡ Input)
    × Appends old new (expected task files)
RunWrites ReadFault task old new files asked left = WritesReadSoFar task old new files asked left
RunWrites OpenFault task old new files asked left = WritesUnopened task old new
RunWrites WriteFault task old new files asked left = AppendsPartOf old new (expected task files)
RunWrites NoMemory task old new files asked left = AppendsPartOf old new (expected task files)
    × WritesShort task old new files

-- the same, where the library tells its bytes
abbrev pub ToldRun : Status → Task → Option (List ℕ) → Option (List ℕ) → Option Files → List Asked
    → (ℕ → Option (List ℕ)) → Type 0
ToldRun status task old new None asked left = ⊤
ToldRun status task old new (Some files) asked left =
    RunWrites status task old new files asked left

-- how a run ends whose words are refused, and what it writes, whether or not the library tells its
-- bytes
abbrev pub RefusedWrites : Status → Option (List ℕ) → Option (List ℕ) → Type 0
RefusedWrites Usage old new = Appends old new usage_line
RefusedWrites WriteFault old new = AppendsPartOf old new usage_line
RefusedWrites NoMemory old new = Appends old new []
RefusedWrites Done old new = ⊥
RefusedWrites Data old new = ⊥
RefusedWrites Input old new = ⊥
RefusedWrites ReadFault old new = ⊥
RefusedWrites OpenFault old new = ⊥

-- the summary of the generated script of so many documents
abbrev pub summary : ℕ → List ℕ
summary documents = summary_of step (generated documents)

-- how a run over such a script ends, and what it writes, whether or not the library tells its bytes
abbrev pub GeneratedWrites : ℕ → Status → Option (List ℕ) → Option (List ℕ) → Type 0
GeneratedWrites documents Done old new = Appends old new (summary documents)
GeneratedWrites documents WriteFault old new = AppendsPartOf old new (summary documents)
GeneratedWrites documents NoMemory old new = Appends old new []
GeneratedWrites documents Usage old new = ⊥
GeneratedWrites documents Data old new = ⊥
GeneratedWrites documents Input old new = ⊥
GeneratedWrites documents ReadFault old new = ⊥
GeneratedWrites documents OpenFault old new = ⊥

-- where nothing of the outside failed in the call, the run ends as it should, or for want of memory
abbrev pub IsComplete : Status → Task → Option Files
    → (opens opens' reads reads' writes writes' : ℕ) → Type 0
IsComplete status task None opens opens' reads reads' writes writes' = ⊤
IsComplete status task (Some files) opens opens' reads reads' writes writes' =
    (Rose opens opens' → ⊥) → (Rose reads reads' → ⊥) → (Rose writes writes' → ⊥)
    → (status ≡ expected_status task files) ⊎ (status ≡ NoMemory)
