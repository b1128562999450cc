-- What codes changes have: this project's profile.
use Rattle.std.specs.Prelude.{ℕ, List, [], ◌∷◌, ◌++◌, flat_map, Option, Some, None}
use Rattle.cs_value.specs.Tree.{Tree}
use Rattle.cs_view.specs.Changes.{Edit}
use Rattle.cs_view.specs.Document.{id_of}
use Rattle.cs_codes.specs.Codes.{key_codes, id_code}
use Rattle.cs_codes.specs.declared.seed.Seed.{Seed}

-- the codes of what stands on a side of a change: of its id, and of the other keys that it has
abbrev pub all_codes : Seed → Option Tree → List ℕ
all_codes seed None = []
all_codes seed (Some d) = id_code seed (id_of d) ∷ key_codes seed d

abbrev pub change_codes : Seed → Edit → List ℕ
change_codes seed c = all_codes seed c.1.0 ++ all_codes seed c.1.1

abbrev pub changes_codes : Seed → List Edit → List ℕ
changes_codes seed cs = flat_map (change_codes seed) cs
