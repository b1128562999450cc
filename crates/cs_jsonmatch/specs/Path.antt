-- Paths into a value: this project's profile of the paths of Sanity's patches ("JSONMatch").
use Rattle.std.specs.Prelude.{ℕ, ℤ, List, Bool, Option}
use Rattle.cs_value.specs.Tree.{Tree}
use Rattle.cs_jsonmatch.specs.declared.path.Comparison.{Comparison}

-- What one item between brackets selects. A name by itself is the one item `named`; a comparison
-- has the names that lead to its left side, and `@` is no name.
pub data Item : Type 0 where
  position : ℤ → Item
  range : Option ℤ → Option ℤ → Item
  every : Item
  named : List ℕ → Item
  meets : List (List ℕ) → Comparison → Tree → Item

-- a step: whether `..` stands before it, and its items
pub record Step : Type 0 where
  pub deep : Bool
  pub items : List Item

abbrev pub step : Bool → List Item → Step
step d is = record { deep = d; items = is }

abbrev pub Path : Type 0
Path = List Step
