-- Transactions, as plain data: Sanity's HTTP documentation, "Mutations", in this project's profile.
use Rattle.std.specs.Prelude.{ℕ, List, Bool}
use Rattle.cs_value.specs.Tree.{Tree, Pairs}
use Rattle.cs_patch.specs.Patched.{Patch}

-- which documents a mutation is meant for: that of an id, or those that a query with its parameters
-- finds
pub data Aim : Type 0 where
  one : List ℕ → Aim
  asked : List ℕ → Pairs → Aim

-- a mutation; of a patch also whether `diffMatchPatch` is there
pub data Action : Type 0 where
  create : Tree → Action
  replace : Tree → Action
  if_none : Tree → Action
  remove : Aim → Action
  change : Aim → Patch → Bool → Action

pub record Transaction : Type 0 where
  pub id : List ℕ
  pub actions : List Action
