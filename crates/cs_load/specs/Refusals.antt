-- The refusal of a line beside what the line says. For private clauses.
use Rattle.std.specs.Prelude.{◌≡◌, ⊤}
use Rattle.cs_machine.specs.DataFile.{Said, refused}
use Rattle.cs_load.specs.Loading.{cause_of}
use Rattle.cs_load.specs.declared.refusal.LineRefusal.{LineRefusal}
use Rattle.cs_load.specs.declared.refusal.LineRefusal.TheVariants.{Cause, NoMemory}

-- the line says that it is refused for this cause; want of memory is none
abbrev pub IsRefused : LineRefusal → Said → Type 0
IsRefused (Cause cause) s = s ≡ refused (cause_of cause)
IsRefused NoMemory s = ⊤
