-- The patch that a patch whose paths were read stands for.
use Rattle.std.specs.Prelude.{map, option_map}
use Rattle.cs_patch.specs.Patched.{Patch}
use Rattle.cs_patch.specs.Entries.{value_at, removal_at, number_at, insertion_at}
use Rattle.cs_patch.specs.declared.read_patch.ReadPatch.{ReadPatch}

abbrev pub read_patch : ReadPatch → Patch
read_patch r = record {
  if_revision = option_map (λ t. t.now) r.if_revision;
  set_if_missing = map value_at r.set_if_missing.items;
  set = map value_at r.set.items;
  unset = map removal_at r.unset.items;
  inc = map number_at r.inc.items;
  dec = map number_at r.dec.items;
  insert = option_map insertion_at r.insert;
}
