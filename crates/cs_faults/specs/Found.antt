-- What contracts see of a fault and of an arity, and for private clauses what a check has found.
use Rattle.std.specs.Prelude.{ℕ, List, ◌||◌, if◌then◌else◌, Option, Some, None, Result, Ok, Err}
use Rattle.cs_syntax.specs.Faults.{Fault, unsupported, unknown_function, arity, no_key, is_path}
use Rattle.cs_syntax.specs.Functions.{Arity, exactly, at_least, pairs_and_default, is_left_out}
use Rattle.cs_faults.specs.declared.fault.Fault.{Fault as CodeFault}
use Rattle.cs_faults.specs.declared.fault.Fault.TheVariants.{Unsupported, UnknownFunction, Arity as WrongArity, NoKey}
use Rattle.cs_faults.specs.declared.functions.Arity.{Arity as CodeArity}
use Rattle.cs_faults.specs.declared.functions.Arity.TheVariants.{Exactly, AtLeast, PairsAndDefault}

-- the fault that the code's fault stands for
abbrev pub told : CodeFault → Fault
told (Unsupported name) = unsupported name.now
told (UnknownFunction name) = unknown_function name.now
told (WrongArity name) = arity name.now
told NoKey = no_key

-- for private clauses: the arity that the code's arity stands for
abbrev pub arity_told : CodeArity → Arity
arity_told (Exactly n) = exactly n
arity_told (AtLeast n) = at_least n
arity_told PairsAndDefault = pairs_and_default

-- for private clauses: the fault that a check found
abbrev pub found : {A : Type 0} → Result A CodeFault → Option Fault
found (Ok x) = None
found (Err f) = Some (told f)

-- for private clauses: the fault of a call whose name no function has
abbrev pub no_function : List ℕ → Fault
no_function name = if is_left_out name || is_path name then unsupported name
    else unknown_function name

-- for private clauses: the first that is there
abbrev pub first_or : Option Fault → Option Fault → Option Fault
first_or None g = g
first_or (Some f) g = Some f
