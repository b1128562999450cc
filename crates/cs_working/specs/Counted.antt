-- How many of some ids have a document. For private clauses.
use Rattle.std.specs.Prelude.{ℕ, ◌+◌, List, [], ◌∷◌, cond}
use Rattle.cs_value.specs.Tree.{Tree}
use Rattle.cs_view.specs.Dataset.{stands}

abbrev pub standing_among : List Tree → List (List ℕ) → ℕ
standing_among docs [] = 0
standing_among docs (x ∷ ids) = cond (stands x docs) 1 0 + standing_among docs ids
