-- What the reading of an opened data file answers on the way. For private clauses.
use Rattle.std.specs.Prelude.{◌≡◌, ℕ, List, map, Option, None, Some, Result, Ok, Err, Vec, ⊤}
use Rattle.std.specs.declared.alloc.Global.{Global}
use Rattle.cs_view.specs.View.{document_of}
use Rattle.cs_view.specs.declared.doc.Doc.{Doc}
use Rattle.cs_io.specs.Causes.{Rose}
use Rattle.cs_io.specs.declared.lines.LineFault.{LineFault}
use Rattle.cs_io.specs.declared.lines.LineFault.TheVariants as line
use Rattle.cs_machine.specs.DataFile.{Loaded, of_references, loaded}
use Rattle.cs_docs.specs.References.{first_dangling}
use Rattle.cs_docs.specs.declared.prepared.PrepareFault.{PrepareFault}
use Rattle.cs_docs.specs.declared.prepared.PrepareFault.TheVariants as store
use Rattle.cs_load.specs.Loading.{Loads}
use Rattle.cs_load.specs.declared.fault.LoadFault.{LoadFault}
use Rattle.cs_load.specs.declared.fault.LoadFault.TheVariants.{Open, Read, TooLong, TooMuch, Bad, Dangling, NoMemory}
use Rattle.cs_load.specs.declared.refusal.LineRefusal.{LineRefusal}
use Rattle.cs_load.specs.declared.refusal.LineRefusal.TheVariants as refusal

-- a fault of the lines as one of the loading
abbrev pub of_line_fault : LineFault → LoadFault
of_line_fault line.Read = Read
of_line_fault (line.TooLong n) = TooLong n
of_line_fault (line.TooMuch n) = TooMuch n
of_line_fault line.NoMemory = NoMemory

-- the refusal of the line with the number
abbrev pub of_refusal : ℕ → LineRefusal → LoadFault
of_refusal n (refusal.Cause cause) = Bad n cause
of_refusal n refusal.NoMemory = NoMemory

-- the documents are not too many
abbrev pub IsNotFull : PrepareFault → Type 0
IsNotFull store.Full = ⊥
IsNotFull (store.Dangling from to) = ⊤
IsNotFull store.NoMemory = ⊤

-- a fault of documents that are not too many as one of the loading
abbrev pub of_store_fault : PrepareFault → LoadFault
of_store_fault store.Full = NoMemory
of_store_fault (store.Dangling from to) = Dangling from to
of_store_fault store.NoMemory = NoMemory

-- the documents, whose references are still to be looked at, or the fault that the outcome is
abbrev pub ReadsAs : Result (Vec Doc Global) LoadFault → Loaded → Type 0
ReadsAs (Ok v) outcome =
    outcome ≡ of_references (map document_of v.items) (first_dangling (map document_of v.items))
ReadsAs (Err fault) outcome = Loads (Err fault) outcome

-- the same, where the bytes are told
abbrev pub ToldRead : Result (Vec Doc Global) LoadFault → Option (List ℕ) → Type 0
ToldRead r None = ⊤
ToldRead r (Some bytes) = ReadsAs r (loaded bytes)

-- after a failed read alone the count of failed reads rose; no open failed
abbrev pub ReadFails : ℕ → ℕ → LoadFault → Type 0
ReadFails before now Open = ⊥
ReadFails before now Read = Rose before now
ReadFails before now (TooLong n) = ⊤
ReadFails before now (TooMuch n) = ⊤
ReadFails before now (Bad n cause) = ⊤
ReadFails before now (Dangling from to) = ⊤
ReadFails before now NoMemory = ⊤
