-- The first of some targets that no document has as its id. For private clauses.
use Rattle.std.specs.Prelude.{ℕ, List, not, Option}
use Rattle.std.specs.List.{filter}
use Rattle.cs_value.specs.Tree.{Tree}
use Rattle.cs_view.specs.Dataset.{stands}
use Rattle.cs_value.specs.Words.{first_of}

abbrev pub first_missing : List Tree → List (List ℕ) → Option (List ℕ)
first_missing docs ts = first_of (filter (λ t. not (stands t docs)) ts)
