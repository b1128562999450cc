-- How an example of the machine is told: as the lines of its files and of what is written.
use Rattle.std.specs.Prelude.{◌≡◌, ℕ, List, ◌++◌, flat_map, codes}
use Rattle.cs_machine.specs.DataFile.{loaded}
use Rattle.cs_machine.specs.Expected.{Ending, start_of, start_writes, start_ends}
use Rattle.cs_machine.specs.Machine.{step}

-- each line with its newline
abbrev pub file : List (List ℕ) → List ℕ
file lines = flat_map (λ line. line ++ codes "\n") lines

-- with a data file of these lines, a script of these lines has these lines written
abbrev pub Plays : (data_file script output : List (List ℕ)) → Type 0
Plays data_file script output =
    start_writes step (start_of (loaded (file data_file))) (file script) ≡ file output

-- the run of these files ends so
abbrev pub Ends : (data_file script : List (List ℕ)) → Ending → Type 0
Ends data_file script ending =
    start_ends (start_of (loaded (file data_file))) (file script) ≡ ending
