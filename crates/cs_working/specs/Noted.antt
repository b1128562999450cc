-- What is put stands under touched ids. For private clauses.
use Rattle.std.specs.Prelude.{◌≡◌, ℕ, List, true}
use Rattle.std.specs.BTreeSet.{BTreeSet, contains}
use Rattle.cs_value.specs.Tree.{Tree}
use Rattle.cs_view.specs.Dataset.{id_cmp, stands}

-- each id of these documents is among the touched ones
abbrev pub AreNoted : List Tree → BTreeSet (List ℕ) → Type 0
AreNoted put touched = (id : List ℕ) → stands id put ≡ true → contains id_cmp touched id ≡ true
