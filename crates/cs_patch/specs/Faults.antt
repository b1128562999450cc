-- Which refusal a fault tells. Want of memory tells none.
use Rattle.std.specs.Prelude.{◌≡◌, ℕ, List, Some, ⊤}
use Rattle.cs_patch.specs.Operations.{Refusal, revision, no_path, not_number, overflow, not_array, immutable, too_deep}
use Rattle.cs_patch.specs.Patched.{Patch, paths, first_fault}
use Rattle.cs_patch.specs.declared.fault.PatchFault.{PatchFault}
use Rattle.cs_patch.specs.declared.fault.PatchFault.TheVariants as patch
use Rattle.cs_patch.specs.declared.fault.PathsFault.{PathsFault}
use Rattle.cs_patch.specs.declared.fault.PathsFault.TheVariants as text

-- it holds of the refusal that the fault tells
abbrev pub IsPatchFault : (Refusal → Type 0) → PatchFault → Type 0
IsPatchFault P (patch.Revision expected found) = P (revision expected found)
IsPatchFault P (patch.NotNumber path) = P (not_number path)
IsPatchFault P (patch.Overflow path) = P (overflow path)
IsPatchFault P (patch.NotArray path) = P (not_array path)
IsPatchFault P (patch.Immutable name) = P (immutable name)
IsPatchFault P patch.TooDeep = P too_deep
IsPatchFault P patch.NoMemory = ⊤

-- it is the first fault of the texts
abbrev pub IsFirstFault : PathsFault → List (List ℕ) → Type 0
IsFirstFault (text.BadPath path at) texts = first_fault texts ≡ Some (no_path path at)
IsFirstFault text.NoMemory texts = ⊤

abbrev pub IsPathsFault : PathsFault → Patch → Type 0
IsPathsFault f p = IsFirstFault f (paths p)
