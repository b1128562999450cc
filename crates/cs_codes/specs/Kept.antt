-- The keys that an index keeps: this project's profile. Each scalar at an attribute path of one to
-- four names, each scalar element of a list at such a path, each reference. The store answers the
-- others.
use Rattle.std.specs.Prelude.{◌<◌, ◌≤◌, length, ⊤}
use Rattle.cs_view.specs.Limits.{most_names}
use Rattle.cs_view.specs.declared.key.Key.{Key}
use Rattle.cs_view.specs.declared.key.Key.TheVariants.{All, Id, Path, Elem, Ref}

abbrev pub IsKept : Key → Type 0
IsKept All = ⊥
IsKept (Id t) = ⊥
IsKept (Path ns s) = (0 < length ns) × (length ns ≤ most_names)
IsKept (Elem ns s) = (0 < length ns) × (length ns ≤ most_names)
IsKept (Ref t) = ⊤
