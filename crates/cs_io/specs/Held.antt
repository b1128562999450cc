-- The files of a library in memory, and what is left of the opened ones: this project's profile.
use Rattle.std.specs.Prelude.{◌≡◌, ℕ, List, map, drop, length, ◌<◌, true, Option, slice_get, Vec}
use Rattle.std.specs.Option.{option_map}
use Rattle.std.specs.FinMap.{from_entries}
use Rattle.std.specs.FinMap.Entries.{find}
use Rattle.std.specs.Cmp.Lexicographic.{slice_cmp}
use Rattle.std.specs.Ordering.{nat_cmp}
use Rattle.std.specs.declared.alloc.Global.{Global}
use Rattle.cs_io.specs.Names.{Files, is_open}
use Rattle.cs_io.specs.declared.library.Asked.{Asked}
use Rattle.cs_io.specs.declared.slot.Slot.{Slot}

abbrev pub entries_of : List (List ℕ × Vec ℕ Global) → List (List ℕ × List ℕ)
entries_of files = map (λ f. (f.0, f.1.items)) files

-- the map of the files; of files of one name the first counts
abbrev pub files_of : List (List ℕ × Vec ℕ Global) → Files
files_of files = from_entries (entries_of files)

-- the bytes of the first file of the name
abbrev pub found : List ℕ → List (List ℕ × Vec ℕ Global) → Option (List ℕ)
found name files = find (slice_cmp nat_cmp) name (entries_of files)

-- what is left under a number
abbrev pub left_under : List Slot → ℕ → Option (List ℕ)
left_under opened n = option_map (λ slot. drop slot.at slot.bytes.items) (slice_get opened n)

-- each open number has what is kept under it
abbrev pub IsPlaced : {X : Type 0} → List Asked → List X → Type 0
IsPlaced asked opened = (n : ℕ) → is_open asked n ≡ true → n < length opened
