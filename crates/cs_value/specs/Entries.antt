-- The pairs of an ordered map: names, each with its value, in ascending order of the names' bytes
-- (RFC 8259, "Objects", where each name is unique).
use base.Stored.{Coded}
use Rattle.std.specs.Prelude.{ℕ, List, map, String, string_bytes}
use Rattle.std.specs.Ordering.{nat_cmp}
use Rattle.std.specs.Cmp.Lexicographic.{slice_cmp}
use Rattle.std.specs.List.Sorted.{IsStrictlySortedBy}
use Rattle.std.specs.Map.{keys_of}
use Rattle.std.specs.declared.alloc.Global.{Global}
use Rattle.std.specs.declared.cmp.Ordering.{Ordering}
use Rattle.cs_value.specs.declared.map.stored.Stored.{Stored}
use Rattle.cs_value.specs.declared.map.stored.Stored.TheVariants.{Few, Many}
use Rattle.cs_value.specs.contracts.txt.Txt as txt

-- a name is the list of its bytes
abbrev pub Name : Type 0
Name = List ℕ

-- by which the logic tells names apart
abbrev pub name_code : Coded Name
name_code = txt.the_row.coded

-- the pairs of a tree, each name as its bytes
abbrev pub named : {V : Type 0} → List (String Global × V) → List (Name × V)
named es = map (λ e. (string_bytes e.0, e.1)) es

abbrev pub entries : {V : Type 0} → Stored V → List (Name × V)
entries (Few row) = row.items
entries (Many tree) = named tree.entries

-- how one name stands to another
abbrev pub compares : Name → Name → Ordering
compares = slice_cmp nat_cmp

abbrev pub Ascend : {V : Type 0} → List (Name × V) → Type 0
Ascend es = IsStrictlySortedBy compares (keys_of es)
