-- The number with which the program ends: this project's profile.
use Rattle.std.specs.Prelude.{ℕ}
use Rattle.cs_run.specs.declared.status.Status.{Status}
use Rattle.cs_run.specs.declared.status.Status.TheVariants.{Done, ReadFault, Usage, Data, Input, WriteFault, NoMemory, OpenFault}

abbrev pub status_number : Status → ℕ
status_number Done = 0
status_number ReadFault = 1
status_number Usage = 2
status_number Data = 3
status_number Input = 4
status_number WriteFault = 5
status_number NoMemory = 6
status_number OpenFault = 7
