-- What the loading of a data file answers: this project's profile.
use Rattle.std.specs.Prelude.{◌≡◌, ℕ, ◌≤◌, List, [], ◌∷◌, ◌++◌, Option, None, Some, Result, Ok, Err, IfSome, ⊤}
use Rattle.cs_docs.specs.Store.{docs}
use Rattle.cs_docs.specs.declared.docs.Docs.{Docs}
use Rattle.cs_io.specs.Causes.{Rose}
use Rattle.cs_io.specs.Names.{AddsNone}
use Rattle.cs_io.specs.declared.library.Asked.{Asked}
use Rattle.cs_reply.specs.Stated.{Cause, no_json, deep, fraction, no_document, repeated, full, Stop, long_line, much, bad, dangling, data_file}
use Rattle.cs_machine.specs.DataFile.{Loaded, dataset, stopped, loaded}
use Rattle.cs_load.specs.declared.fault.DataCause.{DataCause}
use Rattle.cs_load.specs.declared.fault.DataCause.TheVariants as cause
use Rattle.cs_load.specs.declared.fault.LoadFault.{LoadFault}
use Rattle.cs_load.specs.declared.fault.LoadFault.TheVariants.{Open, Read, TooLong, TooMuch, Bad, Dangling, NoMemory}

-- what contracts see of a cause
abbrev pub cause_of : DataCause → Cause
cause_of cause.NotJson = no_json
cause_of cause.TooDeep = deep
cause_of cause.NotWhole = fraction
cause_of cause.BadDocument = no_document
cause_of (cause.Repeated id) = repeated id
cause_of cause.FullDocuments = full

-- what the data file itself is stopped by: nothing, where the outside failed or memory was short
abbrev pub stop_of : LoadFault → Option Stop
stop_of Open = None
stop_of Read = None
stop_of (TooLong line) = Some (long_line data_file line)
stop_of (TooMuch line) = Some (much data_file line)
stop_of (Bad line c) = Some (bad line (cause_of c))
stop_of (Dangling from to) = Some (dangling from to)
stop_of NoMemory = None

-- the answer is the outcome of the data file's bytes; faults of the outside and want of memory are
-- none
abbrev pub Loads : Result Docs LoadFault → Loaded → Type 0
Loads (Ok d) outcome = outcome ≡ dataset (docs d)
Loads (Err fault) outcome = IfSome (stop_of fault) (λ stop. outcome ≡ stopped stop)

-- the same, where the bytes of the name are told
abbrev pub ToldLoad : Result Docs LoadFault → Option (List ℕ) → Type 0
ToldLoad r None = ⊤
ToldLoad r (Some bytes) = Loads r (loaded bytes)

-- the name was asked for and opened, and no other
abbrev pub Opened : List Asked → List Asked → List ℕ → Type 0
Opened old new name = (number : ℕ)
    × (new ≡ old ++ record { name = name; number = Some number } ∷ [])

-- the name was asked for, and no other; it was opened, but after a failed open
abbrev pub AsksFor : Result Docs LoadFault → List Asked → List Asked → List ℕ → Type 0
AsksFor (Ok d) old new name = Opened old new name
AsksFor (Err Open) old new name = AddsNone old new name
AsksFor (Err Read) old new name = Opened old new name
AsksFor (Err (TooLong line)) old new name = Opened old new name
AsksFor (Err (TooMuch line)) old new name = Opened old new name
AsksFor (Err (Bad line c)) old new name = Opened old new name
AsksFor (Err (Dangling from to)) old new name = Opened old new name
AsksFor (Err NoMemory) old new name = Opened old new name

-- no count fell, and a fault of the outside is answered only where its own count rose
pub record LoadHasCause (r : Result Docs LoadFault) (opens opens' reads reads' : ℕ) : Type 0 where
  pub opens_later : opens ≤ opens'
  pub reads_later : reads ≤ reads'
  pub opened : r ≡ Err Open → Rose opens opens'
  pub read : r ≡ Err Read → Rose reads reads'
