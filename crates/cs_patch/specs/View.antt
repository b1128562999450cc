-- What contracts see of a patch.
use Rattle.std.specs.Prelude.{◌≡◌, ℕ, ℤ, pos, List, map, Bool, true, is_some, option_map, unwrap_or}
use Rattle.std.specs.List.{list_all}
use Rattle.cs_value.specs.Tree.{Pairs, attributes}
use Rattle.cs_value.specs.Words.{as_integer}
use Rattle.cs_value.specs.View.{list_tree, fields}
use Rattle.cs_alter.specs.Alterations.{side}
use Rattle.cs_patch.specs.Operations.{Insertion}
use Rattle.cs_patch.specs.Patched.{Patch}
use Rattle.cs_patch.specs.declared.patch.Patch.{Patch as CodePatch}
use Rattle.cs_patch.specs.declared.patch.Insert.{Insert}

-- every value is a whole number
abbrev pub are_numbers : Pairs → Bool
are_numbers ps = list_all (λ e. is_some (as_integer e.1)) (attributes ps)

abbrev pub AreNumbers : Pairs → Type 0
AreNumbers ps = are_numbers ps ≡ true

-- each name with its number: 0 where the value is none, which no patch that was read has
abbrev pub numbers : Pairs → List (List ℕ × ℤ)
numbers ps = map (λ e. (e.0, unwrap_or (as_integer e.1) (pos 0))) (attributes ps)

abbrev pub insertion : Insert → Insertion
insertion i = record { side = side i.side; path = i.path; items = list_tree i.items.items }

abbrev pub patch : CodePatch → Patch
patch p = record {
  if_revision = p.if_revision;
  set_if_missing = attributes (fields p.set_if_missing);
  set = attributes (fields p.set);
  unset = p.unset.items;
  inc = numbers (fields p.inc);
  dec = numbers (fields p.dec);
  insert = option_map insertion p.insert;
}

-- what is added and what is taken away is a number each time
abbrev pub HasNumbers : CodePatch → Type 0
HasNumbers p = AreNumbers (fields p.inc) × AreNumbers (fields p.dec)
